-- Bytes kept in an area up to a ceiling, and what is lost by it: nothing that is asked.
use Prim.Native.Nat.{ℕ, suc, ◌+◌, ◌-◌, ◌≤◌, ◌<◌}
use native.Mathlib.Omega.{arith}
use mathlib.Core.Path.{◌≡◌, sym, ap, ap₂, ◌∙◌}
use mathlib.Core.Logic.{◌⊎◌, inl, inr}
use mathlib.Core.Bool.{true, false, cond}
use mathlib.Core.List.{List, [], ◌∷◌, ◌++◌}
use lib.Dec.{ltb, leb}
use lib.ListN.{length, take, set, length-append, length-take}
use lib.Seq.{take_all, take-nil, take-append-le, take-suc-set}
use Rattle.limits.specs.Limits.{letter_q}
use Rattle.format.specs.Lines.{Row}
use Rattle.model.specs.Services.{verdict}
use borrow.Author.Tests.{lt-ltb}
use Rattle.calculus.proofs.Basic.{bool_cases, leb_le, leb_false}
use Rattle.query_lines.specs.Stream.{answered}
use Rattle.query_lines.proofs.Streaming.{verdict_cap, answered_cap}
use Rattle.desk.specs.DeskSays.{file_room, line_room, Holds}

-- ---- one byte more

-- there is room: the byte is stored behind the others
pub hold_more : {most held r : ℕ} (b : ℕ) (area : List ℕ) {area' : List ℕ} → held < most → area' ≡ set area held b → r ≡ cond (ltb held (length area)) (suc held) held
    → (bs : List ℕ) → Holds most held area bs → most ≤ length area → Holds most r area' (bs ++ (b ∷ []))
hold_more {most} {held} {r} b area {area'} h e p bs k room =
    let few : length bs < most = omega (arith, k.count, length-take most bs) in
    let all : take most bs ≡ bs = take_all most bs (omega arith) in
    let count : held ≡ length bs = k.count ∙ ap length all in
    let sum : length (bs ++ (b ∷ [])) ≡ suc (length bs) = length-append bs (b ∷ []) ∙ omega arith in
    let next : r ≡ suc held = p ∙ ap (λ c. cond c (suc held) held) (lt-ltb held (length area) (omega arith)) in
    let whole : take most (bs ++ (b ∷ [])) ≡ bs ++ (b ∷ []) = take_all most (bs ++ (b ∷ [])) (omega arith) in
    record {
      count = next ∙ ap suc count ∙ sym sum ∙ ap length (sym whole);
      bytes =
          ap₂ take next e
          ∙ take-suc-set area held b (omega arith)
          ∙ ap (λ l. l ++ (b ∷ [])) (k.bytes ∙ all)
          ∙ sym whole;
    }

-- there is none: the byte is not kept
pub hold_full : {most held : ℕ} {area : List ℕ} (b : ℕ) → most ≤ held → (bs : List ℕ) → Holds most held area bs → Holds most held area (bs ++ (b ∷ []))
hold_full {most} {held} {area} b h bs k =
    let many : most ≤ length bs = omega (arith, k.count, length-take most bs) in
    let same : take most (bs ++ (b ∷ [])) ≡ take most bs = take-append-le most bs (b ∷ []) many in
    record { count = k.count ∙ ap length (sym same); bytes = k.bytes ∙ sym same }

-- nothing is kept of nothing
pub holds_none : (most : ℕ) (area : List ℕ) → Holds most 0 area []
holds_none most area = record { count = sym (ap length (take-nil most)); bytes = sym (take-nil most) }

-- the Q of the first query
pub holds_letter : {r : ℕ} (line : List ℕ) {line' : List ℕ} → line_room ≤ length line → line' ≡ set line 0 letter_q → r ≡ cond (ltb 0 (length line)) 1 0
    → Holds line_room r line' (letter_q ∷ [])
holds_letter {r} line {line'} h e p = hold_more letter_q line (omega arith) e p [] (holds_none line_room line) h

-- ---- what is kept answers for all

-- a file of at most 65,536 bytes is kept whole, and of a longer one as much as shows that
pub held_verdict : {held : ℕ} {area : List ℕ} (bs : List ℕ) → Holds file_room held area bs → verdict (take held area) ≡ verdict bs
held_verdict {held} {area} bs k = go (bool_cases (leb (length bs) 65536))
  where
    go : (leb (length bs) 65536 ≡ true) ⊎ (leb (length bs) 65536 ≡ false) → verdict (take held area) ≡ verdict bs
    go (inl t) = ap verdict (k.bytes ∙ take_all file_room bs (omega (arith, leb_le (length bs) 65536 t)))
    go (inr t) =
        let long : 65536 < length bs = leb_false (length bs) 65536 t in
        ap verdict k.bytes ∙ verdict_cap (take file_room bs) bs (omega (arith, length-take file_room bs)) long

-- and so for a query's line and 200 bytes
pub held_answer : {held : ℕ} {area : List ℕ} (rs : List Row) (l : List ℕ) → Holds line_room held area l → answered rs (take held area) ≡ answered rs l
held_answer {held} {area} rs l k = go (bool_cases (leb (length l) 200))
  where
    go : (leb (length l) 200 ≡ true) ⊎ (leb (length l) 200 ≡ false) → answered rs (take held area) ≡ answered rs l
    go (inl t) = ap (answered rs) (k.bytes ∙ take_all line_room l (omega (arith, leb_le (length l) 200 t)))
    go (inr t) =
        let long : 200 < length l = leb_false (length l) 200 t in
        ap (answered rs) k.bytes ∙ answered_cap rs (take line_room l) l (omega (arith, length-take line_room l)) long
