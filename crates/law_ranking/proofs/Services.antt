-- Request 02, settings as numbers: what the two services answer and leave in every lent area. The areas of two calls on one file need not be the same.
use Prim.Native.Nat.{ℕ, ◌≤◌, ◌<◌}
use native.Mathlib.Nat.{le_trans}
use native.Mathlib.Omega.{arith}
use mathlib.Core.Path.{◌≡◌, refl, sym, ap, ◌∙◌}
use mathlib.Core.Bool.{Bool, true, false, ◌||◌, or-true, or-false}
use mathlib.Core.Option.{some}
use mathlib.Core.List.{List}
use lib.Dec.{ltb}
use lib.ListN.{length, take, drop}
use lib.Seq.{take-append_seam, drop-append_seam}
use Rattle.limits.specs.Limits.{table_length, work_length, result_length, max_values}
use Rattle.calculus.specs.Refusals.{short_area}
use Rattle.format.specs.Lines.{Row}
use Rattle.model.specs.Services.{Verdict, accepted, refused, verdict, written, table_after, work_after, short, unless, answer_of, check, Outcome, gives, fails}
use Rattle.model.specs.Services.{refusal_number, bytes_from, served, serve}
use Rattle.calculus.proofs.Basic.{lt_ltb, not_ltb, ltb_false, neither}
use Rattle.model.proofs.Files.{number_positive}
use Rattle.model.proofs.Outcomes.{past_short, refused_first}
use Rattle.model.proofs.Sheets.{long_enough, written_length}
use Rattle.law_ranking.specs.Numbering.{before, number_rows, setting_rows, number_on, setting_on, number_from, Numbered, Lettered, numbered_by, lettered_by, number_service, setting_service}
use Rattle.law_ranking.specs.Answers.{NumberIs, SettingIs}
use Rattle.law_ranking.proofs.Outcomes.{number_in_lem, setting_in, number_setting, setting_number, number_below, number_order, setting_room}

-- ---- outcomes and verdicts

-- what is given, where nothing is refused
gives_number : (x : Outcome ℕ) → refusal_number x ≡ 0 → x ≡ gives (number_from x)
gives_number (gives n) e = refl
gives_number (fails f) e = absurd (omega (arith, e, number_positive f))

gives_letters : (x : Outcome (List ℕ)) → refusal_number x ≡ 0 → x ≡ gives (bytes_from x)
gives_letters (gives ls) e = refl
gives_letters (fails f) e = absurd (omega (arith, e, number_positive f))

-- ---- letters to number

module _ (file t w : List ℕ) (i : ℕ) (value : List ℕ) where
  -- table and work area are as after Check, whatever is answered
  pub number_areas : ((number_service file t w i value).table ≡ (check file t w).table) × ((number_service file t w i value).work ≡ (check file t w).work)
  unfolding check number_service
  number_areas = (refl, refl)

  -- Check's own refusals come first, refusal 1 among them
  pub number_check : 0 < (check file t w).answer.number → ((number_service file t w i value).number ≡ (check file t w).answer.number) × ((number_service file t w i value).setting ≡ 0)
  unfolding check number_service
  number_check = go (unless (short t w) (verdict file))
    where
      go : (v : Verdict) → 0 < (answer_of v).number → (refusal_number (number_on v i value) ≡ (answer_of v).number) × (number_from (number_on v i value) ≡ 0)
      go (accepted rs) h = absurd (omega arith)
      go (refused f n) h = (refl, refl)

  -- "With a refusal the setting number is 0"
  pub number_refused : 0 < (number_service file t w i value).number → (number_service file t w i value).setting ≡ 0
  unfolding number_service
  number_refused = go (number_on (unless (short t w) (verdict file)) i value)
    where
      go : (x : Outcome ℕ) → 0 < refusal_number x → number_from x ≡ 0
      go (gives n) h = absurd (omega arith)
      go (fails f) h = refl

  -- what is answered without a refusal
  pub number_given : (number_service file t w i value).number ≡ 0 → number_on (verdict file) i value ≡ gives (number_service file t w i value).setting
  unfolding number_service
  number_given e = past_short (short t w) (verdict file) (number_rows i value) (gives_number (number_on (unless (short t w) (verdict file)) i value) e)

  -- "a count above 4,294,967,295" is refused: the number fits 32 bits
  pub number_fits : (number_service file t w i value).number ≡ 0 → (number_service file t w i value).setting < max_values
  number_fits e = number_below (verdict file) i value (number_service file t w i value).setting (number_given e)

  -- an accepted file and areas of the stated lengths
  module _ (long : table_length ≤ length t) (wide : work_length ≤ length w) where
    under : (number_service file t w i value) ≡ numbered_by (served (verdict file) (number_on (verdict file) i value) t w)
    unfolding number_service
    under = ap (λ b. numbered_by (serve b (verdict file) (number_rows i value) t w)) (long_enough t w long wide)

    -- 15, 18, 16 or the number: one of the cases of `NumberIs` holds (`number_case`), and the service answers by it
    pub number_answers : (rs : List Row) → verdict file ≡ accepted rs → (x : Outcome ℕ) → NumberIs rs i value x → number_service file t w i value ≡ numbered_by (served (accepted rs) x t w)
    number_answers rs e x h =
        under ∙ ap (λ v. numbered_by (served v (number_on v i value) t w)) e ∙ ap (λ y. numbered_by (served (accepted rs) y t w)) (number_in_lem rs i value h)

-- ---- number to letters

module _ (file t w : List ℕ) (i n : ℕ) (o : List ℕ) where
  abbrev narrow : Bool
  narrow = short t w || ltb (length o) result_length

  -- a result area below 127 bytes is 1 before anything else, and nothing changes
  pub setting_short : length o < result_length → setting_service file t w i n o ≡ record { refusal = some short_area; number = 1; length = 0; table = t; work = w; result = o }
  unfolding setting_service
  setting_short h =
      ap (λ b. lettered_by o (serve b (verdict file) (setting_rows i n) t w)) (ap (λ b. short t w || b) (lt_ltb h) ∙ or-true (short t w))

  -- a refusal writes nothing
  pub setting_refused : 0 < (setting_service file t w i n o).number → ((setting_service file t w i n o).length ≡ 0) × ((setting_service file t w i n o).result ≡ o)
  unfolding setting_service
  setting_refused = go (setting_on (unless narrow (verdict file)) i n)
    where
      go : (x : Outcome (List ℕ)) → 0 < refusal_number x → (length (bytes_from x) ≡ 0) × (written (bytes_from x) o ≡ o)
      go (gives ls) h = absurd (omega arith)
      go (fails f) h = (refl, refl)

  -- what is answered without a refusal, and where it stands
  pub setting_given : (setting_service file t w i n o).number ≡ 0
      → setting_on (verdict file) i n ≡ gives (take (setting_service file t w i n o).length (setting_service file t w i n o).result)
  unfolding setting_service
  setting_given e =
      let x : Outcome (List ℕ) = setting_on (unless narrow (verdict file)) i n in
      past_short narrow (verdict file) (setting_rows i n) (gives_letters x e)
      ∙ ap gives (sym (take-append_seam (bytes_from x) (drop (length (bytes_from x)) o)))

  given_short : (x : Outcome (List ℕ)) → setting_on (verdict file) i n ≡ x → length (bytes_from x) ≤ result_length
  given_short (gives ls) e = setting_room file i n ls e
  given_short (fails f) e = omega arith

  -- "letters written into 127 lent bytes": no more are written
  pub setting_letters : (setting_service file t w i n o).length ≤ result_length
  unfolding setting_service
  setting_letters = go narrow
    where
      go : (b : Bool) → length (bytes_from (setting_on (unless b (verdict file)) i n)) ≤ result_length
      go true = omega arith
      go false = given_short (setting_on (verdict file) i n) refl

  -- the area keeps its length, and all that stands behind the letters
  pub setting_kept : (length (setting_service file t w i n o).result ≡ length o)
      × (drop (setting_service file t w i n o).length (setting_service file t w i n o).result ≡ drop (setting_service file t w i n o).length o)
  unfolding setting_service
  setting_kept = (go narrow refl, drop-append_seam (bytes_from x) (drop (length (bytes_from x)) o))
    where
      x : Outcome (List ℕ)
      x = setting_on (unless narrow (verdict file)) i n

      go : (b : Bool) → narrow ≡ b → length (written (bytes_from (setting_on (unless b (verdict file)) i n)) o) ≡ length o
      go true e = refl
      go false e =
          let l = given_short (setting_on (verdict file) i n) refl in
          let r = ltb_false (length o) result_length (neither (short t w) (ltb (length o) result_length) e).1 in
          written_length (bytes_from (setting_on (verdict file) i n)) o (le_trans l r)

  module _ (room : result_length ≤ length o) where
    enough : narrow ≡ short t w
    enough = ap (λ b. short t w || b) (not_ltb room) ∙ or-false (short t w)

    -- table and work area are then as after Check, whatever is answered
    pub setting_areas : ((setting_service file t w i n o).table ≡ (check file t w).table) × ((setting_service file t w i n o).work ≡ (check file t w).work)
    unfolding check setting_service
    setting_areas = (ap (λ b. table_after (unless b (verdict file)) t) enough, ap (λ b. work_after (unless b (verdict file)) w) enough)

    -- and Check's own refusals come first
    pub setting_check : 0 < (check file t w).answer.number → (setting_service file t w i n o).number ≡ (check file t w).answer.number
    unfolding check setting_service
    setting_check h = ap (λ b. refusal_number (setting_on (unless b (verdict file)) i n)) enough ∙ (refused_first (unless (short t w) (verdict file)) (setting_rows i n) h).0

    -- an accepted file and areas of the stated lengths
    module _ (long : table_length ≤ length t) (wide : work_length ≤ length w) where
      under_all : setting_service file t w i n o ≡ lettered_by o (served (verdict file) (setting_on (verdict file) i n) t w)
      unfolding setting_service
      under_all =
          ap (λ b. lettered_by o (serve b (verdict file) (setting_rows i n) t w)) (enough ∙ long_enough t w long wide)

      -- 15, 18, 19 or the letters: one of the cases of `SettingIs` holds (`setting_case`), and the service answers by it
      pub setting_answers : (rs : List Row) → verdict file ≡ accepted rs → (x : Outcome (List ℕ)) → SettingIs rs i n x → setting_service file t w i n o ≡ lettered_by o (served (accepted rs) x t w)
      setting_answers rs e x h =
          under_all ∙ ap (λ v. lettered_by o (served v (setting_on v i n) t w)) e ∙ ap (λ y. lettered_by o (served (accepted rs) y t w)) (setting_in rs i n h)

-- ---- each undoing the other

-- the first call's areas, and the second's, which have the stated lengths
module _ (file t w t₂ w₂ : List ℕ) (i : ℕ) (long : table_length ≤ length t₂) (wide : work_length ≤ length w₂) where
  -- "each undoing the other": the number of letters gives the letters back
  pub number_undone : (value o : List ℕ) → result_length ≤ length o → (number_service file t w i value).number ≡ 0
      → ((setting_service file t₂ w₂ i (number_service file t w i value).setting o).number ≡ 0)
      × ((setting_service file t₂ w₂ i (number_service file t w i value).setting o).length ≡ length value)
      × ((setting_service file t₂ w₂ i (number_service file t w i value).setting o).result ≡ written value o)
  number_undone value o room e =
      let n = (number_service file t w i value).setting in
      let s = number_setting (verdict file) i value n (number_given file t w i value e) in
      let u = under_all file t₂ w₂ i n o room long wide ∙ ap (λ y. lettered_by o (served (verdict file) y t₂ w₂)) s in
      (ap (λ (r : Lettered). r.number) u, ap (λ (r : Lettered). r.length) u, ap (λ (r : Lettered). r.result) u)

  -- "each undoing the other": the letters of a number, as they stand in the result area, give the number back
  pub setting_undone : (n : ℕ) (o : List ℕ) → (setting_service file t w i n o).number ≡ 0
      → ((number_service file t₂ w₂ i (take (setting_service file t w i n o).length (setting_service file t w i n o).result)).number ≡ 0)
      × ((number_service file t₂ w₂ i (take (setting_service file t w i n o).length (setting_service file t w i n o).result)).setting ≡ n)
  setting_undone n o e =
      let ls = take (setting_service file t w i n o).length (setting_service file t w i n o).result in
      let s = setting_number (verdict file) i n ls (setting_given file t w i n o e) in
      let u = under file t₂ w₂ i ls long wide ∙ ap (λ y. numbered_by (served (verdict file) y t₂ w₂)) s in
      (ap (λ (r : Numbered). r.number) u, ap (λ (r : Numbered). r.setting) u)

-- ---- the order

module _ (file t w t₂ w₂ : List ℕ) (i : ℕ) where
  -- "numbers of one type rise exactly as the letters do in byte order": of letters given in
  pub numbers_rise : (ls ms : List ℕ) → (number_service file t w i ls).number ≡ 0 → (number_service file t₂ w₂ i ms).number ≡ 0
      → ltb (number_service file t w i ls).setting (number_service file t₂ w₂ i ms).setting ≡ before ls ms
  numbers_rise ls ms d e = number_order (verdict file) i ls ms _ _ (number_given file t w i ls d) (number_given file t₂ w₂ i ms e)

  -- and of letters written
  pub letters_rise : (m n : ℕ) (o o₂ : List ℕ) → (setting_service file t w i m o).number ≡ 0 → (setting_service file t₂ w₂ i n o₂).number ≡ 0
      → ltb m n
      ≡ before (take (setting_service file t w i m o).length (setting_service file t w i m o).result)
      (take (setting_service file t₂ w₂ i n o₂).length (setting_service file t₂ w₂ i n o₂).result)
  letters_rise m n o o₂ d e =
      number_order (verdict file) i _ _ m n (setting_number (verdict file) i m _ (setting_given file t w i m o d))
      (setting_number (verdict file) i n _ (setting_given file t₂ w₂ i n o₂ e))
