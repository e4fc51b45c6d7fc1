-- What the two services answer and leave in the areas, case by case, against the model's.
use Prim.Native.Nat.{ℕ, ◌≤◌, ◌<◌}
use mathlib.Core.Path.{◌≡◌, refl, sym, subst}
use mathlib.Core.Bool.{Bool, true, false}
use mathlib.Core.Option.{none, some}
use mathlib.Core.List.{List}
use lib.ListN.{length}
use Rattle.limits.specs.Limits.{result_length}
use Rattle.calculus.specs.Tools.{is_some}
use Rattle.calculus.specs.Refusals.{short_area}
use Rattle.format.specs.Lines.{Row}
use Rattle.model.specs.Services.{accepted, written, Outcome, bytes_from}
use Rattle.law_ranking.specs.Numbering.{number_rows, setting_rows, number_on, setting_on, number_from, number_served, setting_served, number_service, setting_service}
use Rattle.format.specs.Code.{refusal_view}
use Rattle.format.specs.declared.Answer as A
use Rattle.table_walks.specs.Walk.{FileIn}
use Rattle.checker.specs.CheckSays.{CheckSays, Accepted}
use Rattle.checker.specs.declared.Checked as C
use Rattle.checker.proofs.Going.{ServedAs, narrow, roomy, short_area_lem, check_refused, check_accepted}
use Rattle.settings.specs.SettingSays.{NumberedAs, LetteredAs, NumberSays, SettingSays}
use Rattle.settings.specs.declared.Numbered as N
use Rattle.settings.specs.declared.Lettered as L

-- ---- letters to number; its answer names no line

module _ (s t w : List ℕ) (i : ℕ) (value t' w' : List ℕ) where
  abbrev Numbers : N.Numbered → Outcome ℕ → Type 0
  Numbers r x = r.setting ≡ number_from x

  number_says : (r : N.Numbered) {place : ℕ} → ServedAs (number_served s t w i value) (Numbers r) r.refusal place t' w' → NumberSays s t w i value t' w' r
  unfolding number_service
  number_says r g = record { refusal = g.refusal; number = g.number; setting = g.answers; table = g.table; work = g.work }

  pub number_refused : (a : A.Answer) (r : N.Numbered) {b : Bool} → CheckSays s t w t' w' a → b ≡ is_some (refusal_view a.refusal) → b ≡ true
      → r.refusal ≡ a.refusal → r.setting ≡ 0 → NumberSays s t w i value t' w' r
  number_refused a r c e y same k =
      number_says r
      (subst (λ f. ServedAs (number_served s t w i value) (Numbers r) f a.place t' w') (sym same)
      (check_refused (number_rows i value) (Numbers r) s t w refl c e y (λ g. k)))

  pub number_accepted : (c : C.Checked) (r : N.Numbered) {b : Bool} → CheckSays s t w t' w' c.answer → (refusal_view c.answer.refusal ≡ none → Accepted s t' c)
      → b ≡ is_some (refusal_view c.answer.refusal) → b ≡ false
      → ((patterns lines : ℕ) (rs : List Row) → FileIn t' c.types patterns lines rs → NumberedAs (number_on (accepted rs) i value) r)
      → NumberSays s t w i value t' w' r
  number_accepted c r says acc e y f =
      number_says r
      (check_accepted (number_rows i value) (Numbers r) s t w refl c says acc e y {place = 0} refl
      (λ a. let q = f c.patterns c.lines a.file a.table in (q.refusal, q.setting)) (λ _ u. u))

-- ---- number to letters

module _ (s t w : List ℕ) (i n : ℕ) (o : List ℕ) where
  abbrev Spells : List ℕ → L.Lettered → Outcome (List ℕ) → Type 0
  Spells o' r x = (r.length ≡ length (bytes_from x)) × (o' ≡ written (bytes_from x) o)

  setting_says : (t' w' o' : List ℕ) (r : L.Lettered) {place : ℕ} → ServedAs (setting_served s t w i n o) (Spells o' r) r.refusal place t' w' → SettingSays s t w i n o t' w' o' r
  unfolding setting_service
  setting_says t' w' o' r g =
      record { refusal = g.refusal; number = g.number; bytes = g.answers.0; table = g.table; work = g.work; result = g.answers.1 }

  -- 1: the result area is short
  pub setting_short : (r : L.Lettered) → length o < result_length → refusal_view r.refusal ≡ some short_area → r.length ≡ 0 → SettingSays s t w i n o t w o r
  setting_short r h e k =
      setting_says t w o r (short_area_lem (setting_rows i n) (Spells o r) s t w (narrow t w h) {place = 0} e refl (k, refl))

  module _ (h : result_length ≤ length o) (t' w' : List ℕ) where
    pub setting_refused : (a : A.Answer) (r : L.Lettered) {b : Bool} → CheckSays s t w t' w' a → b ≡ is_some (refusal_view a.refusal) → b ≡ true
        → r.refusal ≡ a.refusal → r.length ≡ 0 → SettingSays s t w i n o t' w' o r
    setting_refused a r c e y same k =
        setting_says t' w' o r
        (subst (λ f. ServedAs (setting_served s t w i n o) (Spells o r) f a.place t' w') (sym same)
        (check_refused (setting_rows i n) (Spells o r) s t w (roomy t w h) c e y (λ g. (k, refl))))

    pub setting_accepted : (o' : List ℕ) (c : C.Checked) (r : L.Lettered) {b : Bool} → CheckSays s t w t' w' c.answer → (refusal_view c.answer.refusal ≡ none → Accepted s t' c)
        → b ≡ is_some (refusal_view c.answer.refusal) → b ≡ false
        → ((patterns lines : ℕ) (rs : List Row) → FileIn t' c.types patterns lines rs → 127 ≤ length o → LetteredAs (setting_on (accepted rs) i n) o o' r)
        → SettingSays s t w i n o t' w' o' r
    setting_accepted o' c r says acc e y f =
        setting_says t' w' o' r
        (check_accepted (setting_rows i n) (Spells o' r) s t w (roomy t w h) c says acc e y {place = 0} refl
        (λ a. let q = f c.patterns c.lines a.file a.table h in (q.refusal, (q.bytes, q.result))) (λ _ u. u))
