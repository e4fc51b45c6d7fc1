-- The list of an import between two types: over 32 lines, 20, or the file.
use Prim.Native.Nat.{ℕ, ◌≤◌, ◌<◌}
use native.Mathlib.Omega.{arith}
use mathlib.Core.Path.{◌≡◌, sym, ap, ◌∙◌, subst}
use mathlib.Core.Bool.{Bool, true, false, cond}
use mathlib.Core.Option.{none, some}
use mathlib.Core.List.{List}
use lib.ListN.{length, take}
use Rattle.limits.specs.Limits.{max_pairs, max_clauses}
use Rattle.calculus.specs.Tools.{◌>>=◌, guard}
use Rattle.calculus.specs.Trees.{Ty}
use Rattle.calculus.specs.Refusals.{clause_line, ceiling, bad_list}
use Rattle.format.specs.Lines.{lines}
use Rattle.format.specs.Code.{refusal_view}
use Rattle.calculus.proofs.Basic.{bind_some, some_inj, guard_true, lt_ltb, not_ltb}
use Rattle.model.specs.Services.{Outcome, fails}
use Rattle.law_ranking.specs.Numbering.{count}
use Rattle.law_pairlists.specs.PairLists.{tos_of, pairs_up, list_of, on_list, on_lines}
use Rattle.number_values.specs.Numbers.{Counts}
use Rattle.number_values.proofs.Counting.{counted}
use Rattle.list_file.specs.Filing.{FiledAs, FileMade}
use Rattle.list_file.specs.declared.Filed as D
use Rattle.imports.specs.ImportSays.{ListFiled}
use Rattle.imports.proofs.Types.{filed_refused}

-- a list that is taken pairs up
taken_pairs : (a b : Ty) (ls : List (List ℕ)) {ts : List ℕ} → list_of a b ls ≡ some ts → pairs_up a b ts ≡ true
unfolding list_of
taken_pairs a b ls {ts} e =
    let f = bind_some (tos_of 0 ls) (λ us. guard (pairs_up a b us) >>= λ _. some us) e in
    let g = bind_some (guard (pairs_up a b f.0)) (λ _. some f.0) f.2 in
    subst (λ us. pairs_up a b us ≡ true) (some_inj g.2) (guard_true (pairs_up a b f.0) g.1)

abbrev by : Ty → Ty → List (List ℕ) → Bool → Outcome (List ℕ)
by a b ls c = cond c (fails (ceiling clause_line)) (on_list a b (list_of a b ls))

module _ (a b : Ty) (list o : List ℕ) {n : ℕ} (e : n ≡ length (lines list)) where
  -- "Over 32 lines in the list is 7 at line 0"
  pub list_long : max_clauses < n → (r : D.Filed) → refusal_view r.refusal ≡ some (ceiling clause_line) → r.length ≡ 0 → ListFiled a b list o o r
  list_long h r j k = record { does = λ ha hb ca cb room. let l : max_clauses < length (lines list) = omega arith in filed_refused o r (ap (by a b (lines list)) (lt_ltb l)) j k }

  module _ (h : n ≤ max_clauses) where
    few : on_lines a b (lines list) ≡ on_list a b (list_of a b (lines list))
    few = let l : length (lines list) ≤ max_clauses = omega arith in ap (by a b (lines list)) (not_ltb l)

    module _ {x y : ℕ} (cx : Counts a x) (cy : Counts b y) {m : ℕ} (w : List ℕ) (z : Bool) (wide : max_clauses ≤ m)
        (read : (c d : Ty) → x ≡ count c → y ≡ count d → n ≡ length (lines list) → n ≤ m → y ≤ 65536 → list_of c d (lines list) ≡ cond z (some (take n w)) none) where
      told : count a ≤ max_pairs → count b ≤ max_pairs → list_of a b (lines list) ≡ cond z (some (take n w)) none
      told ca cb = let p = counted a cx (omega arith) in let q = counted b cy (omega arith) in read a b p q e (omega arith) (omega arith)

      -- 20
      pub list_bad : z ≡ false → (r : D.Filed) → refusal_view r.refusal ≡ some bad_list → r.length ≡ 0 → ListFiled a b list o o r
      list_bad u r j k =
          record { does = λ ha hb ca cb room. filed_refused o r (few ∙ ap (on_list a b) (told ca cb ∙ ap (λ c. cond c (some (take n w)) none) u)) j k }

      -- the file
      pub list_good : z ≡ true → length w ≡ m → {o' : List ℕ} {r : D.Filed} → FileMade a b w n o o' r → ListFiled a b list o o' r
      list_good u same {o'} {r} f =
          record {
            does = λ ha hb ca cb room.
                let taken : list_of a b (lines list) ≡ some (take n w) = told ca cb ∙ ap (λ c. cond c (some (take n w)) none) u in
                subst (λ v. FiledAs v o o' r) (sym (few ∙ ap (on_list a b) taken))
                (f.does ha hb (omega arith) (taken_pairs a b (lines list) taken) room);
          }
