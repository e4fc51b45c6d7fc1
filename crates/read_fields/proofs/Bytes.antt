-- One byte of a line: a given one at a place; the end of the bytes, and a line's ending.
use Prim.Native.Nat.{ℕ, suc, ◌+◌, ◌-◌, ◌<◌, ◌≤◌}
use native.Mathlib.Omega.{arith}
use mathlib.Core.Path.{◌≡◌, refl, sym, ap, ◌∙◌}
use mathlib.Core.Logic.{◌⊎◌, inl, inr}
use mathlib.Core.Bool.{cond, true, false}
use mathlib.Core.Option.{Option, none, some}
use mathlib.Core.List.{List, [], ◌∷◌, ◌++◌}
use lib.Dec.{eqb, leb}
use lib.ListN.{length, get_or, take, drop, drop_of_length-le, take-append-drop}
use lib.Seq.{take-suc, length-take-le, get_or-take}
use borrow.Author.Tests.{eq-eqb, ne_eqb, leb-true, leb-false}
use Rattle.limits.specs.Limits.{line_feed, carriage_return}
use Rattle.format.specs.Lines.{text, skip, ended}
use Rattle.calculus.proofs.Basic.{none≢some, from_byte, bool_cases}
use Rattle.format.proofs.Endings.{text_none, text_last}
use Rattle.std.specs.Prelude as P
use Rattle.std.specs.Bool.{then_some}
use Rattle.std.specs.Prelude.{Some, None}
use Rattle.read_fields.specs.declared.Cursor as C
use Rattle.read_fields.specs.Views.{as_skipped, as_text, as_end, past_ending}

pub skip_past : (c : ℕ) (s : List ℕ) (at : ℕ) → at < length s → get_or s at 0 ≡ c → some (drop (at + 1) s) ≡ skip c (drop at s)
skip_past c s at h e = rw (from_byte s at h, eq-eqb (get_or s at 0) c e)

pub skip_other : (c : ℕ) (s : List ℕ) (at : ℕ) → at < length s → (get_or s at 0 ≡ c → ⊥) → none ≡ skip c (drop at s)
skip_other c s at h e = rw (from_byte s at h, ne_eqb (get_or s at 0) c e)

pub skip_end : (c : ℕ) (s : List ℕ) (at : ℕ) → length s ≤ at → none ≡ skip c (drop at s)
skip_end c s at h = rw (drop_of_length-le s h)

-- a line's ending here
pub ending_feed : (s : List ℕ) (at : ℕ) → at < length s → get_or s at 0 ≡ line_feed → some (drop (at + 1) s) ≡ past_ending (drop at s)
ending_feed s at h e = rw (from_byte s at h, eq-eqb (get_or s at 0) line_feed e)

pub ending_both : (s : List ℕ) (at : ℕ) {o : Option (List ℕ)} → at < length s → (get_or s at 0 ≡ line_feed → ⊥) → get_or s at 0 ≡ carriage_return
    → o ≡ skip line_feed (drop (at + 1) s) → o ≡ past_ending (drop at s)
ending_both s at h n e k = rw (from_byte s at h, ne_eqb (get_or s at 0) line_feed n, eq-eqb (get_or s at 0) carriage_return e) k

pub ending_other : (s : List ℕ) (at : ℕ) → at < length s → (get_or s at 0 ≡ line_feed → ⊥) → (get_or s at 0 ≡ carriage_return → ⊥) → none ≡ past_ending (drop at s)
ending_other s at h n e = rw (from_byte s at h, ne_eqb (get_or s at 0) line_feed n, ne_eqb (get_or s at 0) carriage_return e)

pub ending_none : (s : List ℕ) (at : ℕ) → length s ≤ at → none ≡ past_ending (drop at s)
ending_none s at h = rw (drop_of_length-le s h)

-- what a skipped byte, or another one, says of the definition
pub past : (s : List ℕ) {o : Option (List ℕ)} (r : P.Option C.Cursor) (c : C.Cursor) → r ≡ Some c → as_skipped s r ≡ o → some (drop c.at s) ≡ o
past s r c p e = sym (ap (as_skipped s) p) ∙ e

pub other : (s : List ℕ) {o : Option (List ℕ)} (r : P.Option C.Cursor) → r ≡ None → as_skipped s r ≡ o → none ≡ o
other s r p e = sym (ap (as_skipped s) p) ∙ e

-- ---- the end of the bytes

pub at_end : (s : List ℕ) (at : ℕ) → length s ≤ at → some (drop at s) ≡ as_end (drop at s)
at_end s at h = rw (drop_of_length-le s h)

pub before_end : (s : List ℕ) (at : ℕ) → at < length s → none ≡ as_end (drop at s)
before_end s at h = rw (from_byte s at h)

pub end_told : (s : List ℕ) (c : C.Cursor) → as_skipped s (then_some (leb (length s) c.at) c) ≡ as_end (drop c.at s)
end_told s c = go (bool_cases (leb (length s) c.at))
  where
    go : (leb (length s) c.at ≡ true) ⊎ (leb (length s) c.at ≡ false) → as_skipped s (then_some (leb (length s) c.at) c) ≡ as_end (drop c.at s)
    go (inl t) = rw t (at_end s c.at (leb-true (length s) c.at t))
    go (inr t) = rw t (before_end s c.at (leb-false (length s) c.at t))

-- what an end that is there, or is not, says of the definition
end_some : {cs : List ℕ} (bs : List ℕ) → some cs ≡ as_end bs → ended bs ≡ some tt
end_some [] e = refl
end_some (b ∷ bs) e = absurd (none≢some (sym e))

end_none : (bs : List ℕ) → none ≡ as_end bs → ended bs ≡ none
end_none [] e = absurd (none≢some e)
end_none (b ∷ bs) e = refl

pub is_end : (s bs : List ℕ) {r : P.Option C.Cursor} {c : C.Cursor} → r ≡ Some c → as_skipped s r ≡ as_end bs → ended bs ≡ some tt
is_end s bs {r} {c} p e = end_some bs (past s r c p e)

pub not_end : (s bs : List ℕ) {r : P.Option C.Cursor} → r ≡ None → as_skipped s r ≡ as_end bs → ended bs ≡ none
not_end s bs {r} p e = end_none bs (other s r p e)

-- ---- a line's ending

-- the last byte, and the last two
last_one : (s : List ℕ) (m : ℕ) → m + 1 ≡ length s → s ≡ take m s ++ (get_or s m 0 ∷ [])
last_one s m e =
    sym (take-append-drop m s) ∙ ap (λ x. take m s ++ x) (from_byte s m (omega arith) ∙ ap (λ x. get_or s m 0 ∷ x) (drop_of_length-le s {i = m + 1} (omega arith)))

last_two : (s : List ℕ) (m : ℕ) → m + 2 ≡ length s → s ≡ take m s ++ (get_or s m 0 ∷ get_or s (m + 1) 0 ∷ [])
last_two s m e =
    sym (take-append-drop m s)
    ∙ ap (λ x. take m s ++ x)
    (from_byte s m (omega arith)
    ∙ ap (λ x. get_or s m 0 ∷ x) (from_byte s (m + 1) (omega arith) ∙ ap (λ x. get_or s (m + 1) 0 ∷ x) (drop_of_length-le s {i = m + 1 + 1} (omega arith))))

pub no_bytes : (s : List ℕ) → length s ≡ 0 → none ≡ text s
no_bytes [] e = refl
no_bytes (b ∷ s) e = absurd (omega arith)

pub no_feed : (s : List ℕ) → (length s ≡ 0 → ⊥) → (get_or s (length s - 1) 0 ≡ 10 → ⊥) → none ≡ text s
no_feed s h n =
    let m : ℕ = length s - 1 in
    sym (ap text (last_one s m (omega (arith, h))) ∙ text_none (take m s) (get_or s m 0) (ne_eqb (get_or s m 0) line_feed n))

pub feed_alone : (s : List ℕ) → length s ≡ 1 → get_or s (length s - 1) 0 ≡ 10 → some (take 0 s) ≡ text s
feed_alone [] e f = absurd (omega arith)
feed_alone (b ∷ []) e f = sym (ap (λ x. text (x ∷ [])) f)
feed_alone (b ∷ c ∷ s) e f = absurd (omega arith)

module _ (s : List ℕ) (some_bytes : length s ≡ 0 → ⊥) (more : length s ≡ 1 → ⊥) (feed : get_or s (length s - 1) 0 ≡ 10) where
  abbrev m : ℕ
  m = length s - 2

  two : text s ≡ some (cond (eqb (get_or s m 0) carriage_return) (take m s) (take m s ++ (get_or s m 0 ∷ [])))
  two =
      let place : length s - 1 ≡ m + 1 = omega (arith, some_bytes, more) in
      let last : get_or s (m + 1) 0 ≡ line_feed = ap (λ k. get_or s k 0) (sym place) ∙ feed in
      ap text (last_two s m (omega (arith, some_bytes, more)) ∙ ap (λ x. take m s ++ (get_or s m 0 ∷ x ∷ [])) last) ∙ text_last (take m s) (get_or s m 0)

  pub return_and_feed : get_or s (length s - 2) 0 ≡ 13 → some (take (length s - 2) s) ≡ text s
  return_and_feed e = sym (two ∙ (rw (eq-eqb (get_or s m 0) carriage_return e)))

  pub feed_only : (get_or s (length s - 2) 0 ≡ 13 → ⊥) → some (take (length s - 1) s) ≡ text s
  feed_only n =
      let place : length s - 1 ≡ suc m = omega (arith, some_bytes, more) in
      let inside : m < length s = omega (arith, some_bytes, more) in
      ap (λ k. some (take k s)) place
      ∙ ap some (take-suc s m 0 inside)
      ∙ sym (two ∙ (rw (ne_eqb (get_or s m 0) carriage_return n)))

-- the same, where the bytes before the line feed are cut off, and their last one is looked at
module _ (s : List ℕ) (some_bytes : 1 ≤ length s) (feed : get_or s (length s - 1) 0 ≡ 10) where
  abbrev line : List ℕ
  line = take (length s - 1) s

  line_length : length line ≡ length s - 1
  line_length = length-take-le (length s - 1) s (omega arith)

  module _ (more : 1 ≤ length line) where
    line_last : get_or line (length line - 1) 0 ≡ get_or s (length s - 2) 0
    line_last =
        let e = line_length in
        let inside : length line - 1 < length s - 1 = omega arith in
        let place : length line - 1 ≡ length s - 2 = omega arith in
        get_or-take (length s - 1) s (length line - 1) 0 inside ∙ ap (λ k. get_or s k 0) place

    pub both_last : get_or line (length line - 1) 0 ≡ 13 → some (take (length (take (length line - 1) line)) s) ≡ text s
    both_last e =
        let l = line_length in
        let place : length (take (length line - 1) line) ≡ length s - 2 = length-take-le (length line - 1) line (omega arith) ∙ omega arith in
        ap (λ k. some (take k s)) place ∙ return_and_feed s (λ z. omega arith) (λ z. omega arith) feed (sym line_last ∙ e)

    pub feed_last : (get_or line (length line - 1) 0 ≡ 13 → ⊥) → some (take (length line) s) ≡ text s
    feed_last n =
        let l = line_length in
        ap (λ k. some (take k s)) line_length ∙ feed_only s (λ z. omega arith) (λ z. omega arith) feed (λ e. n (line_last ∙ e))

  pub feed_first : length line < 1 → some (take (length line) s) ≡ text s
  feed_first h =
      let l = line_length in
      let one : length s ≡ 1 = omega arith in
      let place : length line ≡ 0 = omega arith in
      ap (λ k. some (take k s)) place ∙ feed_alone s one feed

-- the text up to a cursor, or none
pub text_past : (s : List ℕ) (r : P.Option C.Cursor) (c : C.Cursor) → r ≡ Some c → as_text s r ≡ text s → text s ≡ some (take c.at s)
text_past s r c p e = sym e ∙ ap (as_text s) p

pub text_other : (s : List ℕ) (r : P.Option C.Cursor) → r ≡ None → as_text s r ≡ text s → text s ≡ none
text_other s r p e = sym e ∙ ap (as_text s) p
