-- Where the first line from a place on ends: byte by byte up to its line feed.
use Prim.Native.Nat.{ℕ, suc, ◌+◌, ◌-◌, ◌<◌, ◌≤◌, max}
use mathlib.Core.Logic.{◌⊎◌, inl, inr}
use mathlib.Core.Bool.{true, false}
use lib.Dec.{leb}
use native.Mathlib.Nat.{sub_self}
use native.Mathlib.Omega.{arith}
use mathlib.Core.Path.{◌≡◌, refl, sym, ap, ◌∙◌, subst}
use mathlib.Core.List.{List, [], ◌∷◌, ◌++◌}
use lib.ListN.{length, get_or, take, drop, length-drop, drop_of_length-le}
use lib.Seq.{take-suc, get_or-drop, take_all}
use borrow.Author.Tests.{eq-eqb, ne_eqb, leb-true, leb-false}
use Rattle.limits.specs.Limits.{line_feed}
use Rattle.format.specs.Lines.{lines, onto_first}
use Rattle.calculus.proofs.Basic.{from_byte, bool_cases}
use Rattle.read_fields.specs.Views.{LineEnd}

-- ---- one byte and the lines behind it

lines_at_feed : (s : List ℕ) (at : ℕ) → at < length s → get_or s at 0 ≡ line_feed → lines (drop at s) ≡ (get_or s at 0 ∷ []) ∷ lines (drop (at + 1) s)
lines_at_feed s at h e = rw (from_byte s at h, eq-eqb (get_or s at 0) line_feed e)

lines_at_other : (s : List ℕ) (at : ℕ) → at < length s → (get_or s at 0 ≡ line_feed → ⊥) → lines (drop at s) ≡ onto_first (get_or s at 0) (lines (drop (at + 1) s))
lines_at_other s at h e = rw (from_byte s at h, ne_eqb (get_or s at 0) line_feed e)

-- ---- the first line

-- bytes in front of the first line
abbrev pub onto_all : List ℕ → List (List ℕ) → List (List ℕ)
onto_all [] ls = ls
onto_all (b ∷ bs) ls = onto_first b (onto_all bs ls)

onto_snoc : (bs : List ℕ) (b : ℕ) (ls : List (List ℕ)) → onto_all bs (onto_first b ls) ≡ onto_all (bs ++ (b ∷ [])) ls
onto_snoc [] b ls = refl
onto_snoc (c ∷ bs) b ls = ap (onto_first c) (onto_snoc bs b ls)

onto_line : (bs l : List ℕ) (ls : List (List ℕ)) → onto_all bs (l ∷ ls) ≡ (bs ++ l) ∷ ls
onto_line [] l ls = refl
onto_line (b ∷ bs) l ls = ap (onto_first b) (onto_line bs l ls)

onto_none : (bs : List ℕ) → 0 < length bs → onto_all bs [] ≡ bs ∷ []
onto_none [] h = absurd (omega arith)
onto_none (b ∷ []) h = refl
onto_none (b ∷ c ∷ bs) h = ap (onto_first b) (onto_none (c ∷ bs) (omega arith))

-- the bytes from a place up to another
abbrev part : List ℕ → ℕ → ℕ → List ℕ
part s from at = take (at - from) (drop from s)

part_snoc : (s : List ℕ) (from at : ℕ) → from ≤ at → at < length s → part s from (at + 1) ≡ part s from at ++ (get_or s at 0 ∷ [])
part_snoc s from at h l =
    let below : at - from < length (drop from s) = subst (λ n. at - from < n) (sym (length-drop from s)) (omega arith) in
    let one : at + 1 - from ≡ suc (at - from) = omega arith in
    let place : from + (at - from) ≡ at = omega arith in
    ap (λ n. take n (drop from s)) one
    ∙ take-suc (drop from s) (at - from) 0 below
    ∙ ap (λ b. part s from at ++ (b ∷ [])) (get_or-drop from s (at - from) 0 ∙ ap (λ n. get_or s n 0) place)

-- what a search for the end of the line at `from` knows at a place
pub record Ahead (s : List ℕ) (from at : ℕ) : Type 0 where
  pub begun : from ≤ at
  pub stays : length s ≤ from → at ≡ from
  pub within : from < length s → at ≤ length s
  pub onto : from < length s → lines (drop from s) ≡ onto_all (part s from at) (lines (drop at s))

pub ahead_start : (s : List ℕ) (from : ℕ) → Ahead s from from
ahead_start s from =
    record {
      begun = omega arith;
      stays = λ h. refl;
      within = λ h. omega arith;
      onto = λ h. ap (λ n. onto_all (take n (drop from s)) (lines (drop from s))) (sym (sub_self from));
    }

pub ahead_step : {s : List ℕ} {from at : ℕ} → Ahead s from at → at < length s → (get_or s at 0 ≡ line_feed → ⊥) → Ahead s from (at + 1)
ahead_step {s} {from} {at} a h e =
    record {
      begun = omega (arith, a.begun);
      stays = λ l. absurd (omega (arith, a.begun));
      within = λ l. omega arith;
      onto =
          λ l. a.onto l
          ∙ ap (onto_all (part s from at)) (lines_at_other s at h e)
          ∙ onto_snoc (part s from at) (get_or s at 0) (lines (drop (at + 1) s))
          ∙ ap (λ bs. onto_all bs (lines (drop (at + 1) s))) (sym (part_snoc s from at a.begun h));
    }

pub ahead_feed : {s : List ℕ} {from at : ℕ} → Ahead s from at → at < length s → get_or s at 0 ≡ line_feed → LineEnd s from (at + 1)
ahead_feed {s} {from} {at} a h e =
    record {
      further = λ l. omega (arith, a.begun);
      within = λ l. omega arith;
      splits =
          λ l. a.onto l
          ∙ ap (onto_all (part s from at)) (lines_at_feed s at h e)
          ∙ onto_line (part s from at) (get_or s at 0 ∷ []) (lines (drop (at + 1) s))
          ∙ ap (λ bs. bs ∷ lines (drop (at + 1) s)) (sym (part_snoc s from at a.begun h));
      stays = λ l. absurd (omega (arith, a.begun));
    }

pub ahead_end : {s : List ℕ} {from at : ℕ} → Ahead s from at → length s ≤ at → LineEnd s from at
ahead_end {s} {from} {at} a h =
    record {
      further = λ l. omega arith;
      within = a.within;
      splits =
          λ l. let whole : length (drop from s) ≤ at - from = subst (λ n. n ≤ at - from) (sym (length-drop from s)) (omega (arith, a.begun)) in
          let all : part s from at ≡ drop from s = take_all (at - from) (drop from s) whole in
          let some_left : 0 < length (part s from at) = subst (λ n. 0 < n) (sym (ap length all ∙ length-drop from s)) (omega arith) in
          a.onto l
          ∙ ap (λ bs. onto_all (part s from at) (lines bs)) (drop_of_length-le s h)
          ∙ onto_none (part s from at) some_left
          ∙ ap (λ bs. part s from at ∷ lines bs) (sym (drop_of_length-le s h));
      stays = a.stays;
    }

pub ahead_all : {s : List ℕ} {from at n : ℕ} → Ahead s from at → length s ≤ at → (from ≤ length s → at ≤ length s) → n ≡ max from (length s) → LineEnd s from n
ahead_all {s} {from} {at} {n} a h e m = go (bool_cases (leb from (length s)))
  where
    go : (leb from (length s) ≡ true) ⊎ (leb from (length s) ≡ false) → LineEnd s from n
    go (inl t) =
        let l = leb-true from (length s) t in
        let below : at ≤ length s = e l in
        let same : at ≡ n = omega (arith, m) in
        subst (λ k. LineEnd s from k) same (ahead_end a h)
    go (inr t) =
        let l = leb-false from (length s) t in
        let same : at ≡ n = a.stays (omega arith) ∙ omega (arith, m) in
        subst (λ k. LineEnd s from k) same (ahead_end a h)
