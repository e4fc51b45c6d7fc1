-- The letters of a flat pattern, written number by number: what is written, and the patterns that are still to be written.
use Prim.Native.Nat.{ℕ, suc, ◌+◌, ◌%◌, ◌≤◌, ◌<◌}
use native.Mathlib.Omega.{arith}
use mathlib.Core.Path.{◌≡◌, sym, ap, ap₂, ◌∙◌}
use mathlib.Core.Bool.{cond}
use mathlib.Core.List.{List, [], ◌∷◌, ◌++◌, append_assoc, append-nil}
use lib.Dec.{ltb}
use lib.ListN.{length, get_or, set, take, drop, length-append}
use lib.Seq.{sets}
use Rattle.calculus.specs.Trees.{Leaf, unit_leaf, empty_leaf, Tag, left, right, Node, pair_node, element_node, Pat, pleaf, pvar, pinj, pnode}
use Rattle.calculus.specs.Letters.{leaf_letter, letter_of, node_letter}
use Rattle.area_cells.specs.Areas.{Writes}
use Rattle.area_cells.proofs.Writing.{writes_none, writes_one, writes_both, writes_as}
use Rattle.run_values.specs.Texts.{range_of, built}
use Rattle.run_values.proofs.Agreeing.{take_sets}
use Rattle.run_flat.specs.Flat.{flat, Few, stop, Stands}
use Rattle.run_flat.proofs.Following.{number_here, behind_number, number_within}

abbrev pub flats : List Pat → List ℕ
flats [] = []
flats (p ∷ ps) = flat p ++ flats ps

abbrev pub Fews : List Pat → Type 0
Fews [] = Unit
Fews (p ∷ ps) = Few p × Fews ps

-- the letters of patterns side by side
abbrev pub builts : List Pat → List ℕ → List ℕ → List ℕ
builts [] s vars = []
builts (p ∷ ps) s vars = built p s vars ++ builts ps s vars

-- what is known before number k of the code: of all that is written in the end, the first part stands, up to place `at`
pub record Written (code l : List ℕ) (top : ℕ) (vars : List ℕ) (from : ℕ) (all : List ℕ) (k : ℕ) (l' : List ℕ) (at : ℕ) : Type 0 where
  pub due : List Pat
  pub rest : List ℕ
  pub codes : drop k code ≡ flats due ++ (stop ∷ rest)
  pub few : Fews due
  pub done : List ℕ
  pub whole : all ≡ done ++ builts due (take top l) vars
  pub writes : Writes l l' from at done

pub written_start : {code l : List ℕ} {k : ℕ} {q : Pat} (top : ℕ) (vars : List ℕ) (from : ℕ) → Stands code k q → Written code l top vars from (built q (take top l) vars) k l from
written_start {code} {l} {k} {q} top vars from c =
    record {
      due = q ∷ [];
      rest = c.rest;
      codes = c.spells ∙ sym (append_assoc (flat q) [] (stop ∷ c.rest));
      few = (c.few, tt);
      done = [];
      whole = sym (append-nil (built q (take top l) vars));
      writes = writes_none l from;
    }

-- the part that stands fits
part_fits : (l : List ℕ) (from : ℕ) (all done more : List ℕ) → all ≡ done ++ more → from + length all ≤ length l → from + length done ≤ length l
part_fits l from all done more e h = let n = ap length e in let m = length-append done more in omega (arith, n, m)

-- letters lie between the variables and the stop
leaf_between : (l : Leaf) → (32 ≤ leaf_letter l) × (leaf_letter l < stop)
leaf_between unit_leaf = (omega arith, omega arith)
leaf_between empty_leaf = (omega arith, omega arith)

tag_between : (t : Tag) → (32 ≤ letter_of t) × (letter_of t < stop)
tag_between left = (omega arith, omega arith)
tag_between right = (omega arith, omega arith)

node_between : (k : Node) → (32 ≤ node_letter k) × (node_letter k < stop)
node_between pair_node = (omega arith, omega arith)
node_between element_node = (omega arith, omega arith)

-- the stop
pub written_stop : {code l : List ℕ} {top : ℕ} {vars : List ℕ} {from : ℕ} {all : List ℕ} {k : ℕ} {l' : List ℕ} {at : ℕ} → Written code l top vars from all k l' at → get_or code k 0 ≡ 128
    → from + length all ≤ length l → (l' ≡ sets l from all) × (at ≡ from + length all)
written_stop {code} {l} {top} {vars} {from} {all} {k} {l'} {at} w e fits = go w.due w.codes w.few w.whole
  where
    go : (ps : List Pat) → drop k code ≡ flats ps ++ (stop ∷ w.rest) → Fews ps → all ≡ w.done ++ builts ps (take top l) vars → (l' ≡ sets l from all) × (at ≡ from + length all)
    go [] c f h =
        let is : all ≡ w.done = h ∙ append-nil w.done in
        let ok = part_fits l from all w.done [] h fits in
        (w.writes.area ok ∙ ap (sets l from) (sym is), w.writes.place ok ∙ ap (λ bs. from + length bs) (sym is))
    go (pleaf l ∷ ps) c f h = let n = number_here code k _ _ c in let y = leaf_between l in absurd (omega (arith, n, e, y))
    go (pvar m ∷ ps) c f h = let n = number_here code k _ _ c in let y = f.0 in absurd (omega (arith, n, e, y))
    go (pinj t p ∷ ps) c f h = let n = number_here code k _ _ c in let y = tag_between t in absurd (omega (arith, n, e, y))
    go (pnode m p q ∷ ps) c f h = let n = number_here code k _ _ c in let y = node_between m in absurd (omega (arith, n, e, y))

-- the code does not end before it
pub written_within : {code l : List ℕ} {top : ℕ} {vars : List ℕ} {from : ℕ} {all : List ℕ} {k : ℕ} {l' : List ℕ} {at : ℕ} → Written code l top vars from all k l' at → k < length code
written_within {code} {k = k} w = go w.due w.codes
  where
    go : (ps : List Pat) → drop k code ≡ flats ps ++ (stop ∷ w.rest) → k < length code
    go [] c = number_within code k _ _ c
    go (pleaf l ∷ ps) c = number_within code k _ _ c
    go (pvar m ∷ ps) c = number_within code k _ _ c
    go (pinj t p ∷ ps) c = number_within code k _ _ c
    go (pnode m p q ∷ ps) c = number_within code k _ _ c

-- a variable: its letters stand below `top`, which is left alone
pub written_var : {code l : List ℕ} {top : ℕ} {vars : List ℕ} {from : ℕ} {all : List ℕ} {k : ℕ} {l' : List ℕ} {at o x : ℕ} {l'' : List ℕ} {next : ℕ} → Written code l top vars from all k l' at
    → o ≡ get_or code k 0 → o < 32 → x ≡ o → top ≤ from → from + length all ≤ length l → (top ≤ at → Writes l' l'' at next (range_of (take top l') vars x))
    → Written code l top vars from all (k + 1) l'' next
written_var {code} {l} {top} {vars} {from} {all} {k} {l'} {at} {o} {x} {l''} {next} w eo small ex low fits copied = go w.due w.codes w.few w.whole
  where
    go : (ps : List Pat) → drop k code ≡ flats ps ++ (stop ∷ w.rest) → Fews ps → all ≡ w.done ++ builts ps (take top l) vars → Written code l top vars from all (k + 1) l'' next
    go [] c f h = let n = number_here code k _ _ c in absurd (omega (arith, n, eo))
    go (pleaf l ∷ ps) c f h = let n = number_here code k _ _ c in let y = leaf_between l in absurd (omega (arith, n, eo, y))
    go (pinj t p ∷ ps) c f h = let n = number_here code k _ _ c in let y = tag_between t in absurd (omega (arith, n, eo, y))
    go (pnode m p q ∷ ps) c f h = let n = number_here code k _ _ c in let y = node_between m in absurd (omega (arith, n, eo, y))
    go (pvar m ∷ ps) c f h =
        let is : x ≡ m = ex ∙ eo ∙ number_here code k _ _ c in
        let ok = part_fits l from all w.done _ h fits in
        let place = w.writes.place ok in
        let still : take top l' ≡ take top l = ap (take top) (w.writes.area ok) ∙ take_sets l w.done from top low in
        record {
          due = ps;
          rest = w.rest;
          codes = behind_number code k _ _ c;
          few = f.1;
          done = w.done ++ range_of (take top l) vars m;
          whole = h ∙ sym (append_assoc w.done (range_of (take top l) vars m) (builts ps (take top l) vars));
          writes = writes_both w.writes (writes_as (ap₂ (λ z y. range_of z vars y) still is) (copied (omega (arith, place))));
        }

-- a letter
pub written_letter : {code l : List ℕ} {top : ℕ} {vars : List ℕ} {from : ℕ} {all : List ℕ} {k : ℕ} {l' : List ℕ} {at o b : ℕ} {l'' : List ℕ} {next : ℕ} → Written code l top vars from all k l' at
    → o ≡ get_or code k 0 → 32 ≤ o → (o ≡ 128 → ⊥) → b ≡ o % 256 → l'' ≡ set l' at b → next ≡ cond (ltb at (length l')) (suc at) at
    → Written code l top vars from all (k + 1) l'' next
written_letter {code} {l} {top} {vars} {from} {all} {k} {l'} {at} {o} {b} {l''} {next} w eo large other eb set' place' = go w.due w.codes w.few w.whole
  where
    one : (x : ℕ) (xs : List ℕ) → drop k code ≡ x ∷ xs → x < 256 → Writes l l'' from next (w.done ++ (x ∷ []))
    one x xs c less =
        let n = number_here code k x xs c in
        let is : b ≡ x = omega (arith, eb, eo, n, less) in
        writes_both w.writes (writes_one (set' ∙ ap (set l' at) is) place')

    go : (ps : List Pat) → drop k code ≡ flats ps ++ (stop ∷ w.rest) → Fews ps → all ≡ w.done ++ builts ps (take top l) vars → Written code l top vars from all (k + 1) l'' next
    go [] c f h = absurd (other (eo ∙ number_here code k _ _ c))
    go (pvar m ∷ ps) c f h = let n = number_here code k _ _ c in let y = f.0 in absurd (omega (arith, n, eo, y))
    go (pleaf u ∷ ps) c f h =
        record {
          due = ps;
          rest = w.rest;
          codes = behind_number code k _ _ c;
          few = f.1;
          done = w.done ++ (leaf_letter u ∷ []);
          whole = h ∙ sym (append_assoc w.done (leaf_letter u ∷ []) (builts ps (take top l) vars));
          writes = let y = leaf_between u in one _ _ c (omega (arith, y));
        }
    go (pinj t p ∷ ps) c f h =
        record {
          due = p ∷ ps;
          rest = w.rest;
          codes = behind_number code k _ _ c;
          few = f;
          done = w.done ++ (letter_of t ∷ []);
          whole = h ∙ sym (append_assoc w.done (letter_of t ∷ []) (builts (p ∷ ps) (take top l) vars));
          writes = let y = tag_between t in one _ _ c (omega (arith, y));
        }
    go (pnode m p q ∷ ps) c f h =
        record {
          due = p ∷ (q ∷ ps);
          rest = w.rest;
          codes = behind_number code k _ _ c ∙ ap (λ ys. ys ++ (stop ∷ w.rest)) (append_assoc (flat p) (flat q) (flats ps));
          few = (f.0.0, (f.0.1, f.1));
          done = w.done ++ (node_letter m ∷ []);
          whole = h
              ∙ ap (λ ys. w.done ++ (node_letter m ∷ ys)) (append_assoc (built p (take top l) vars) (built q (take top l) vars) (builts ps (take top l) vars))
              ∙ sym (append_assoc w.done (node_letter m ∷ []) (builts (p ∷ (q ∷ ps)) (take top l) vars));
          writes = let y = node_between m in one _ _ c (omega (arith, y));
        }
