-- An accepted file with its carriage returns taken out, and what Turn makes of it.
use Prim.Native.Nat.{ℕ, ◌≤◌}
use native.Mathlib.Omega.{arith}
use mathlib.Core.Path.{◌≡◌, refl, sym, ap, ◌∙◌, subst}
use mathlib.Core.Bool.{Bool, true, false, ◌||◌}
use mathlib.Core.Option.{none, some}
use mathlib.Core.List.{List, [], ◌∷◌, ◌++◌, map, Memᴰ, append_assoc}
use lib.Dec.{ltb}
use lib.ListN.{length, take, drop}
use lib.Seq.{take_at}
use Rattle.limits.specs.Limits.{carriage_return}
use Rattle.calculus.specs.Tools.{concat}
use Rattle.format.specs.Lines.{Row, lines, text, without_returns, row_of, print_rows}
use Rattle.format.specs.Judge.{start}
use Rattle.format.specs.Unfold.{turn_rows}
use Rattle.model.specs.Services.{verdict, accepted, answer_of, short, unless, turned_of, turned, turn}
use Rattle.calculus.proofs.Basic.{some_inj, not_ltb, not_some, not_both}
use Rattle.format.proofs.Turning.{turn_turn}
use Rattle.format.proofs.Endings.{feed, both, Ended, by_feed, by_both, Returnless, text_ended, without_concat, without_line}
use Rattle.format.proofs.Printing.{returnless_body, read_print, read_each, concat_lines}
use Rattle.model.proofs.Files.{refused≢accepted, accepted_form, answer_zero, printed, turned_accepted, turned_length, turned_fits, turned_twice, turned_accepted_bytes}
use Rattle.model.proofs.Outcomes.{turn_answer}
use Rattle.law_endings.specs.Resaved.{feeds_alone}

-- ---- carriage returns before line feeds, and all of them

-- a text without a carriage return stays
feeds_text : (t rest : List ℕ) → Returnless t → feeds_alone (t ++ rest) ≡ t ++ feeds_alone rest
feeds_text [] rest h = refl
feeds_text (b ∷ t) rest h = rw (h b (Memᴰ.head refl)) (ap (λ bs. b ∷ bs) (feeds_text t rest (λ c m. h c (Memᴰ.tail m))))

-- a line of such a text gets a line feed alone
feeds_line : (l t rest : List ℕ) → Ended l t → Returnless t → feeds_alone (l ++ rest) ≡ without_returns l ++ feeds_alone rest
feeds_line l t rest e h = shape e ∙ ap (λ m. m ++ feeds_alone rest) (sym (without_line e h))
  where
    shape : Ended l t → feeds_alone (l ++ rest) ≡ (t ++ feed) ++ feeds_alone rest
    shape (by_feed p) =
        ap (λ m. feeds_alone (m ++ rest)) p ∙ ap feeds_alone (append_assoc t feed rest) ∙ feeds_text t (feed ++ rest) h ∙ sym (append_assoc t feed (feeds_alone rest))
    shape (by_both p) =
        ap (λ m. feeds_alone (m ++ rest)) p ∙ ap feeds_alone (append_assoc t both rest) ∙ feeds_text t (both ++ rest) h ∙ sym (append_assoc t feed (feeds_alone rest))

-- lines that read as rows
feeds_lines : (ls : List (List ℕ)) → ((l : List ℕ) → Memᴰ l ls → (r : Row) × (row_of l ≡ some r)) → feeds_alone (concat ls) ≡ concat (map without_returns ls)
feeds_lines [] h = refl
feeds_lines (l ∷ ls) h =
    let (r, e) = h l (Memᴰ.head refl) in
    feeds_line l _ (concat ls) (text_ended l (read_print l e).0) (returnless_body r)
    ∙ ap (λ bs. without_returns l ++ bs) (feeds_lines ls (λ m k. h m (Memᴰ.tail k)))

-- "with its carriage returns taken out": in an accepted file each stands before a line feed, so that to take those out is to take out every byte 13
pub all_returns : (bs : List ℕ) (rs : List Row) → verdict bs ≡ accepted rs → feeds_alone bs ≡ without_returns bs
all_returns bs rs e =
    let form = (accepted_form bs rs e).0 in
    ap feeds_alone (sym (concat_lines bs))
    ∙ feeds_lines (lines bs) (read_each start 1 (lines bs) rs form.reads)
    ∙ sym (without_concat (lines bs))
    ∙ ap without_returns (concat_lines bs)

-- "a carriage return elsewhere is still 3": a line with one in its text is not of the five forms
pub return_in_text : (l t : List ℕ) → text l ≡ some t → Memᴰ carriage_return t → row_of l ≡ none
return_in_text l t e m =
    not_some (row_of l) (λ r p.
    let same = some_inj (sym (read_print l p).0 ∙ e) in
    not_both refl (returnless_body r carriage_return (subst (Memᴰ carriage_return) (sym same) m)))

-- ---- accepted files

module _ (bs : List ℕ) (rs : List Row) (e : verdict bs ≡ accepted rs) where
  -- an accepted file with its carriage returns taken out is the printing of its rows
  pub accepted_printed : feeds_alone bs ≡ print_rows rs
  accepted_printed = all_returns bs rs e ∙ printed bs rs (accepted_form bs rs e).0

  -- the turned file is as long
  pub turned_as_long : length (turned bs) ≡ length (feeds_alone bs)
  turned_as_long = turned_length bs rs e ∙ ap length (sym (all_returns bs rs e))

  -- "Turned files are written with line feed alone": there is no carriage return in them
  pub turned_returnless : without_returns (turned bs) ≡ turned bs
  turned_returnless = printed (turned bs) (turn_rows rs) (accepted_form (turned bs) (turn_rows rs) (turned_accepted bs rs e)).0 ∙ sym (turned_accepted_bytes bs rs e)

  -- "turning twice gives the first file with its carriage returns taken out"
  pub turned_back : turned (turned bs) ≡ feeds_alone bs
  turned_back = turned_twice bs rs e ∙ sym (all_returns bs rs e)

  -- and is accepted, with the same rows
  pub feeds_accepted : verdict (feeds_alone bs) ≡ accepted rs
  feeds_accepted =
      ap verdict (sym turned_back)
      ∙ turned_accepted (turned bs) (turn_rows rs) (turned_accepted bs rs e)
      ∙ ap accepted (turn_turn rs)

-- ---- the service

-- the bytes that Turn writes
abbrev pub writes : List ℕ → List ℕ → List ℕ → List ℕ → List ℕ
writes bs table work output = take (turn bs table work output).length (turn bs table work output).output

module _ (bs table work output : List ℕ) where
  abbrev tight : Bool
  tight = short table work || ltb (length output) (length bs)

  -- Turn answers 0 for an accepted file alone, in areas that are long enough
  pub turn_accepts : (turn bs table work output).answer.number ≡ 0 → (rs : List Row) × (verdict bs ≡ accepted rs) × (tight ≡ false)
  unfolding turn
  turn_accepts e = go tight refl (answer_zero (unless tight (verdict bs)) (ap (λ a. a.number) (sym (turn_answer bs table work output)) ∙ e))
    where
      go : (b : Bool) → tight ≡ b → ((rs : List Row) × (unless tight (verdict bs) ≡ accepted rs)) → (rs : List Row) × (verdict bs ≡ accepted rs) × (tight ≡ false)
      go true t h = absurd (refused≢accepted (sym (ap (λ b. unless b (verdict bs)) t) ∙ h.1))
      go false t h = (h.0, sym (ap (λ b. unless b (verdict bs)) t) ∙ h.1, t)

  module _ (enough : tight ≡ false) where
    there : unless tight (verdict bs) ≡ verdict bs
    there = ap (λ b. unless b (verdict bs)) enough

    -- it then answers by the verdict and writes the turned file
    pub turn_answers : (turn bs table work output).answer ≡ answer_of (verdict bs)
    unfolding turn
    turn_answers = turn_answer bs table work output ∙ ap answer_of there

    pub turn_writes : writes bs table work output ≡ turned bs
    unfolding turn turned
    turn_writes =
        let v = unless tight (verdict bs) in
        take_at (turned_of v) (drop (length (turned_of v)) output) (length (turned_of v)) refl ∙ ap turned_of there

-- what it gives as the length is that of the file with its carriage returns taken out
pub turn_length : (bs table work output : List ℕ) → (turn bs table work output).answer.number ≡ 0 → (turn bs table work output).length ≡ length (feeds_alone bs)
unfolding turn turned
turn_length bs table work output e =
    let (rs, accepts, enough) = turn_accepts bs table work output e in
    ap (λ v. length (turned_of v)) (there bs table work output enough) ∙ turned_as_long bs rs accepts

-- Turn on what Turn wrote, in areas that are long enough for the first file, writes the first file with its carriage returns taken out.
pub turn_twice : (bs table work output : List ℕ) → (turn bs table work output).answer.number ≡ 0
    → (table₂ work₂ output₂ : List ℕ) → short table₂ work₂ ≡ false → length bs ≤ length output₂
    → let once = writes bs table work output in
    ((turn once table₂ work₂ output₂).answer ≡ record { number = 0; line = 0 }) × (writes once table₂ work₂ output₂ ≡ feeds_alone bs)
turn_twice bs table work output e table₂ work₂ output₂ room fits =
    let (rs, accepts, enough) = turn_accepts bs table work output e in
    let once : writes bs table work output ≡ turned bs = turn_writes bs table work output enough in
    let small = turned_fits bs rs accepts in
    let less : length (writes bs table work output) ≤ length output₂ = subst (λ x. length x ≤ length output₂) (sym once) (omega arith) in
    let wide : (short table₂ work₂ || ltb (length output₂) (length (writes bs table work output))) ≡ false = rw room (not_ltb less) in (
      turn_answers (writes bs table work output) table₂ work₂ output₂ wide ∙ ap answer_of (ap verdict once ∙ turned_accepted bs rs accepts),
      turn_writes (writes bs table work output) table₂ work₂ output₂ wide ∙ ap turned once ∙ turned_back bs rs accepts,
    )
