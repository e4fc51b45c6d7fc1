-- A flat pattern against the letters of a value: the patterns and values that are still to be compared, number by number.
use Prim.Native.Nat.{ℕ, suc, ◌+◌, ◌≤◌, ◌<◌}
use native.Mathlib.Nat.{add-zero}
use native.Mathlib.Numerals.{add-one}
use native.Mathlib.Omega.{arith}
use mathlib.Core.Path.{◌≡◌, refl, sym, ap, ap₂, ◌∙◌}
use mathlib.Core.Bool.{Bool, true, false, cond, ◌&&◌}
use mathlib.Core.List.{List, [], ◌∷◌, ◌++◌, append_assoc}
use lib.ListN.{length, get_or, drop, length-append, length-drop}
use lib.Seq.{get_or-drop, drop-drop, drop-append_seam}
use Rattle.calculus.specs.Trees.{Leaf, unit_leaf, empty_leaf, Tag, Node, left, right, pair_node, element_node, Pat, pleaf, pvar, pinj, pnode, Val, vleaf, vinj, vnode}
use Rattle.calculus.specs.Letters.{letters}
use Rattle.calculus.proofs.Basic.{same_leaf_refl, same_tag_refl, same_node_refl}
use Rattle.run_values.specs.Texts.{At, alike, put_range, ranges}
use Rattle.run_patterns.proofs.Spelling.{first_of, at_first, with_leaf, with_tag, with_node}
use Rattle.run_patterns.proofs.Matching.{Noded, letter_in, unlike}
use Rattle.run_flat.specs.Flat.{flat, Few, stop, Stands}

-- ---- a number at a place

pub number_here : (s : List ℕ) (i : ℕ) (b : ℕ) (bs : List ℕ) → drop i s ≡ b ∷ bs → get_or s i 0 ≡ b
number_here s i b bs e = ap (λ k. get_or s k 0) (sym (add-zero i)) ∙ sym (get_or-drop i s 0 0) ∙ ap (λ l. get_or l 0 0) e

pub behind_number : (s : List ℕ) (i : ℕ) (b : ℕ) (bs : List ℕ) → drop i s ≡ b ∷ bs → drop (i + 1) s ≡ bs
behind_number s i b bs e = sym (drop-drop 1 i s) ∙ ap (drop 1) e

pub number_within : (s : List ℕ) (i : ℕ) (b : ℕ) (bs : List ℕ) → drop i s ≡ b ∷ bs → i < length s
number_within s i b bs e = omega (arith, length-drop i s, ap length e)

-- ---- patterns against values

abbrev pub Pairs : Type 0
Pairs = List (Pat × Val)

abbrev pub flats : Pairs → List ℕ
flats [] = []
flats (x ∷ xs) = flat x.0 ++ flats xs

abbrev pub texts : Pairs → List ℕ
texts [] = []
texts (x ∷ xs) = letters x.1 ++ texts xs

abbrev pub Fews : Pairs → Type 0
Fews [] = Unit
Fews (x ∷ xs) = Few x.0 × Fews xs

abbrev pub alikes : Pairs → Bool
alikes [] = true
alikes (x ∷ xs) = alike x.0 x.1 && alikes xs

abbrev pub left_by : Pairs → ℕ → List ℕ → List ℕ
left_by [] at vars = vars
left_by (x ∷ xs) at vars =
    cond (alike x.0 x.1) (left_by xs (at + length (letters x.1)) (ranges x.0 x.1 at vars)) (ranges x.0 x.1 at vars)

-- what is known before number k of the code and letter `at`: whether it will match in the end, and the ranges then
pub record Before (code s : List ℕ) (end : ℕ) (hit : Bool) (final : List ℕ) (k at : ℕ) (vars : List ℕ) : Type 0 where
  pub due : Pairs
  pub rest : List ℕ
  pub more : List ℕ
  pub codes : drop k code ≡ flats due ++ (stop ∷ rest)
  pub spells : drop at s ≡ texts due ++ more
  pub ends : at + length (texts due) ≡ end
  pub few : Fews due
  pub same : hit ≡ alikes due
  pub final' : final ≡ left_by due at vars

and_true : (b : Bool) → b ≡ b && true
and_true true = refl
and_true false = refl

cond_same : (b : Bool) (x : List ℕ) → x ≡ cond b x x
cond_same true x = refl
cond_same false x = refl

-- at the start
pub before_start : {code s : List ℕ} {k at end : ℕ} {q : Pat} {v : Val} (vars : List ℕ) → Stands code k q → At s at v → end ≡ at + length (letters v)
    → Before code s end (alike q v) (ranges q v at vars) k at vars
before_start {code} {s} {k} {at} {end} {q} {v} vars c a e =
    let n = length-append (letters v) [] in
    record {
      due = (q, v) ∷ [];
      rest = c.rest;
      more = a.rest;
      codes = c.spells ∙ sym (append_assoc (flat q) [] (stop ∷ c.rest));
      spells = a.spells ∙ sym (append_assoc (letters v) [] a.rest);
      ends = omega (arith, n, e);
      few = (c.few, tt);
      same = and_true (alike q v);
      final' = cond_same (alike q v) (ranges q v at vars);
    }

-- ---- the number at the place

-- behind the last pattern, and only there, stands the stop
none_due : (code : List ℕ) (k : ℕ) (rest : List ℕ) (xs : Pairs) → Fews xs → drop k code ≡ flats xs ++ (stop ∷ rest) → get_or code k 0 ≡ 128 → xs ≡ []
none_due code k rest [] f c e = refl
none_due code k rest ((pleaf unit_leaf, v) ∷ xs) f c e = let n = number_here code k _ _ c in absurd (omega (arith, n, e))
none_due code k rest ((pleaf empty_leaf, v) ∷ xs) f c e = let n = number_here code k _ _ c in absurd (omega (arith, n, e))
none_due code k rest ((pnode element_node p q, v) ∷ xs) f c e = let n = number_here code k _ _ c in absurd (omega (arith, n, e))
none_due code k rest ((pvar m, v) ∷ xs) f c e = let n = number_here code k _ _ c in let l = f.0 in absurd (omega (arith, n, e, l))
none_due code k rest ((pinj left p, v) ∷ xs) f c e = let n = number_here code k _ _ c in absurd (omega (arith, n, e))
none_due code k rest ((pinj right p, v) ∷ xs) f c e = let n = number_here code k _ _ c in absurd (omega (arith, n, e))
none_due code k rest ((pnode pair_node p q, v) ∷ xs) f c e = let n = number_here code k _ _ c in absurd (omega (arith, n, e))

-- the value of the first pair stands at the letter
first_at : (s : List ℕ) (at : ℕ) (more : List ℕ) (v : Val) (ts : List ℕ) → drop at s ≡ (letters v ++ ts) ++ more → At s at v
first_at s at more v ts e = record { rest = ts ++ more; spells = e ∙ append_assoc (letters v) ts more }

-- ---- the stop

pub at_stop : {code s : List ℕ} {end : ℕ} {hit : Bool} {final : List ℕ} {k at : ℕ} {vars : List ℕ} → Before code s end hit final k at vars → get_or code k 0 ≡ 128
    → (true ≡ hit) × (vars ≡ final)
at_stop {code} {s} {end} {hit} {final} {k} {at} {vars} b e =
    let n = none_due code k b.rest b.due b.few b.codes e in
    (sym (b.same ∙ ap alikes n), sym (b.final' ∙ ap (λ xs. left_by xs at vars) n))

-- the code does not end before it
pub code_within : {code s : List ℕ} {end : ℕ} {hit : Bool} {final : List ℕ} {k at : ℕ} {vars : List ℕ} → Before code s end hit final k at vars → k < length code
code_within {code} {k = k} b = go b.due b.codes
  where
    go : (xs : Pairs) → drop k code ≡ flats xs ++ (stop ∷ b.rest) → k < length code
    go [] c = number_within code k _ _ c
    go ((pleaf l, v) ∷ xs) c = number_within code k _ _ c
    go ((pvar m, v) ∷ xs) c = number_within code k _ _ c
    go ((pinj t p, v) ∷ xs) c = number_within code k _ _ c
    go ((pnode m p q, v) ∷ xs) c = number_within code k _ _ c

-- ---- a variable

-- where its value ends, and its range
pub var_next : {code s : List ℕ} {end : ℕ} {hit : Bool} {final : List ℕ} {k at : ℕ} {vars : List ℕ} {o x to : ℕ} {vars' : List ℕ} → Before code s end hit final k at vars
    → o ≡ get_or code k 0 → o < 32 → x ≡ o → ((v : Val) → At s at v → (get_or code (k + 1) 0 ≡ 128 → end ≡ at + length (letters v)) → to ≡ at + length (letters v))
    → vars' ≡ put_range vars x at to → Before code s end hit final (k + 1) to vars'
unfolding first_at
var_next {code} {s} {end} {hit} {final} {k} {at} {vars} {o} {x} {to} {vars'} b eo small ex ends put =
    go b.due b.codes b.spells b.ends b.few b.same b.final'
  where
    go : (xs : Pairs) → drop k code ≡ flats xs ++ (stop ∷ b.rest) → drop at s ≡ texts xs ++ b.more → at + length (texts xs) ≡ end → Fews xs → hit ≡ alikes xs
        → final ≡ left_by xs at vars → Before code s end hit final (k + 1) to vars'
    go [] c t e f h l = let n = number_here code k _ _ c in absurd (omega (arith, n, eo))
    go ((pleaf unit_leaf, v) ∷ xs) c t e f h l = let n = number_here code k _ _ c in absurd (omega (arith, n, eo))
    go ((pleaf empty_leaf, v) ∷ xs) c t e f h l = let n = number_here code k _ _ c in absurd (omega (arith, n, eo))
    go ((pnode element_node p q, v) ∷ xs) c t e f h l = let n = number_here code k _ _ c in absurd (omega (arith, n, eo))
    go ((pinj left p, v) ∷ xs) c t e f h l = let n = number_here code k _ _ c in absurd (omega (arith, n, eo))
    go ((pinj right p, v) ∷ xs) c t e f h l = let n = number_here code k _ _ c in absurd (omega (arith, n, eo))
    go ((pnode pair_node p q, v) ∷ xs) c t e f h l = let n = number_here code k _ _ c in absurd (omega (arith, n, eo))
    go ((pvar m, v) ∷ xs) c t e f h l =
        let n = number_here code k _ _ c in
        let is : x ≡ m = ex ∙ eo ∙ n in
        let next = behind_number code k _ _ c in
        let both = length-append (letters v) (texts xs) in
        let a = first_at s at b.more v (texts xs) t in
        let last : get_or code (k + 1) 0 ≡ 128 → end ≡ at + length (letters v) =
        λ y. let w = ap (λ ys. length (texts ys)) (none_due code (k + 1) b.rest xs f.1 next y) in omega (arith, both, e, w) in
        let stops : to ≡ at + length (letters v) = ends v a last in
        record {
          due = xs;
          rest = b.rest;
          more = b.more;
          codes = next;
          spells = ap (λ j. drop j s) stops ∙ sym (drop-drop (length (letters v)) at s) ∙ ap (drop (length (letters v))) a.spells
              ∙ drop-append_seam (letters v) (texts xs ++ b.more);
          ends = omega (arith, both, e, stops);
          few = f.1;
          same = h;
          final' = l ∙ sym (ap₂ (left_by xs) stops (put ∙ ap₂ (λ x y. put_range vars x at y) is stops));
        }

-- ---- a letter

-- the letters have not ended before a pattern has
pub letter_within : {code s : List ℕ} {end : ℕ} {hit : Bool} {final : List ℕ} {k at : ℕ} {vars : List ℕ} {o : ℕ} → Before code s end hit final k at vars
    → o ≡ get_or code k 0 → (o ≡ 128 → ⊥) → at < length s
letter_within {code} {s} {k = k} {at = at} {o = o} b eo n = go b.due b.codes b.spells
  where
    go : (xs : Pairs) → drop k code ≡ flats xs ++ (stop ∷ b.rest) → drop at s ≡ texts xs ++ b.more → at < length s
    go [] c t = absurd (n (eo ∙ number_here code k _ _ c))
    go ((p, vleaf l) ∷ xs) c t = number_within s at _ _ t
    go ((p, vinj g v) ∷ xs) c t = number_within s at _ _ t
    go ((p, vnode m v w) ∷ xs) c t = number_within s at _ _ t

-- another letter: it does not match
pub letter_differs : {code s : List ℕ} {end : ℕ} {hit : Bool} {final : List ℕ} {k at : ℕ} {vars : List ℕ} {o : ℕ} → Before code s end hit final k at vars
    → o ≡ get_or code k 0 → 32 ≤ o → (o ≡ 128 → ⊥) → (get_or s at 0 ≡ o → ⊥) → (false ≡ hit) × (vars ≡ final)
letter_differs {code} {s} {end} {hit} {final} {k} {at} {vars} {o} b eo low n differs =
    go b.due b.codes b.spells b.few b.same b.final'
  where
    apart : (p : Pat) → Noded p → (v : Val) (xs : Pairs) → get_or code k 0 ≡ letter_in p → drop at s ≡ texts ((p, v) ∷ xs) ++ b.more
        → hit ≡ alikes ((p, v) ∷ xs) → final ≡ left_by ((p, v) ∷ xs) at vars → (false ≡ hit) × (vars ≡ final)
    apart p z v xs c t h l =
        let a = first_at s at b.more v (texts xs) t in
        let u = unlike p z v (λ e. differs (at_first a ∙ e ∙ sym c ∙ sym eo)) at vars in (
          sym (h ∙ ap (λ x. x && alikes xs) u.0),
          sym
              (l
              ∙ ap (λ x. cond x (left_by xs (at + length (letters v)) (ranges p v at vars)) (ranges p v at vars)) u.0
              ∙ u.1),
        )

    go : (xs : Pairs) → drop k code ≡ flats xs ++ (stop ∷ b.rest) → drop at s ≡ texts xs ++ b.more → Fews xs → hit ≡ alikes xs → final ≡ left_by xs at vars
        → (false ≡ hit) × (vars ≡ final)
    go [] c t f h l = absurd (n (eo ∙ number_here code k _ _ c))
    go ((pvar m, v) ∷ xs) c t f h l = let z = number_here code k _ _ c in let y = f.0 in absurd (omega (arith, z, eo, y))
    go ((pleaf u, v) ∷ xs) c t f h l = apart (pleaf u) tt v xs (number_here code k _ _ c) t h l
    go ((pinj g p, v) ∷ xs) c t f h l = apart (pinj g p) tt v xs (number_here code k _ _ c) t h l
    go ((pnode m p q, v) ∷ xs) c t f h l = apart (pnode m p q) tt v xs (number_here code k _ _ c) t h l

-- a pair's ranges, then those of the rest
pair_left : (a b : Bool) (x : List ℕ → List ℕ) (g f : List ℕ) → cond (a && b) (x (cond a g f)) (cond a g f) ≡ cond a (cond b (x g) g) f
pair_left true true x g f = refl
pair_left true false x g f = refl
pair_left false b x g f = refl

and_assoc : (a b c : Bool) → (a && b) && c ≡ a && (b && c)
and_assoc true b c = refl
and_assoc false b c = refl

-- the same letter: what is below it comes next
pub letter_next : {code s : List ℕ} {end : ℕ} {hit : Bool} {final : List ℕ} {k at : ℕ} {vars : List ℕ} {o : ℕ} → Before code s end hit final k at vars
    → o ≡ get_or code k 0 → 32 ≤ o → (o ≡ 128 → ⊥) → get_or s at 0 ≡ o → Before code s end hit final (k + 1) (at + 1) vars
letter_next {code} {s} {end} {hit} {final} {k} {at} {vars} {o} b eo low n same' =
    go b.due b.codes b.spells b.ends b.few b.same b.final'
  where
    -- what is due with a value in front
    Goes : Pat → Pairs → Val → Type 0
    Goes p xs v = drop at s ≡ texts ((p, v) ∷ xs) ++ b.more → at + length (texts ((p, v) ∷ xs)) ≡ end → hit ≡ alikes ((p, v) ∷ xs)
        → final ≡ left_by ((p, v) ∷ xs) at vars → Before code s end hit final (k + 1) (at + 1) vars

    -- the value begins with the pattern's letter
    begins : (v : Val) (xs : Pairs) {x : ℕ} → get_or code k 0 ≡ x → drop at s ≡ (letters v ++ texts xs) ++ b.more → first_of v ≡ x
    begins v xs c t = sym (at_first (first_at s at b.more v (texts xs) t)) ∙ same' ∙ eo ∙ c

    leaf : (u : Leaf) (xs : Pairs) → drop k code ≡ flats ((pleaf u, vleaf u) ∷ xs) ++ (stop ∷ b.rest) → Fews xs → Goes (pleaf u) xs (vleaf u)
    leaf u xs c f t e h l =
        record {
          due = xs;
          rest = b.rest;
          more = b.more;
          codes = behind_number code k _ _ c;
          spells = behind_number s at _ _ t;
          ends = omega (arith, e);
          few = f;
          same = h ∙ ap (λ x. x && alikes xs) (same_leaf_refl u);
          final' = l ∙ ap (λ x. cond x (left_by xs (at + 1) vars) vars) (same_leaf_refl u);
        }

    tag : (g : Tag) (p : Pat) (xs : Pairs) (v : Val) → drop k code ≡ flats ((pinj g p, vinj g v) ∷ xs) ++ (stop ∷ b.rest) → Few p × Fews xs → Goes (pinj g p) xs (vinj g v)
    tag g p xs v c f t e h l =
        let same'' = same_tag_refl g in
        let far : at + suc (length (letters v)) ≡ at + 1 + length (letters v) = omega arith in
        record {
          due = (p, v) ∷ xs;
          rest = b.rest;
          more = b.more;
          codes = behind_number code k _ _ c;
          spells = behind_number s at _ _ t;
          ends = omega (arith, e);
          few = f;
          same = h ∙ ap (λ x. (x && alike p v) && alikes xs) same'';
          final' =
              l
              ∙ ap (λ x. cond (x && alike p v) (left_by xs (at + suc (length (letters v))) (cond x (ranges p v (suc at) vars) vars)) (cond x (ranges p v (suc at) vars) vars)) same''
              ∙ ap₂ (λ x y. cond (alike p v) (left_by xs x (ranges p v y vars)) (ranges p v y vars)) far (sym (add-one at));
        }

    node : (m : Node) (p q : Pat) (xs : Pairs) (v w : Val) → drop k code ≡ flats ((pnode m p q, vnode m v w) ∷ xs) ++ (stop ∷ b.rest) → (Few p × Few q) × Fews xs
        → Goes (pnode m p q) xs (vnode m v w)
    node m p q xs v w c f t e h l =
        let same'' = same_node_refl m in
        let one = length-append (letters v ++ letters w) (texts xs) in
        let two = length-append (letters v) (letters w) in
        let both = length-append (letters v) (letters w ++ texts xs) in
        let rest = length-append (letters w) (texts xs) in
        let first = ranges p v (suc at) vars in
        let second = ranges q w (suc at + length (letters v)) first in
        let u : suc at + length (letters v) ≡ at + 1 + length (letters v) = omega arith in
        let far : at + suc (length (letters v ++ letters w)) ≡ at + 1 + length (letters v) + length (letters w) = omega (arith, two) in
        record {
          due = (p, v) ∷ ((q, w) ∷ xs);
          rest = b.rest;
          more = b.more;
          codes = behind_number code k _ _ c ∙ ap (λ ys. ys ++ (stop ∷ b.rest)) (append_assoc (flat p) (flat q) (flats xs));
          spells = behind_number s at _ _ t ∙ ap (λ ys. ys ++ b.more) (append_assoc (letters v) (letters w) (texts xs));
          ends = omega (arith, e, one, two, both, rest);
          few = (f.0.0, (f.0.1, f.1));
          same = h ∙ ap (λ x. (x && (alike p v && alike q w)) && alikes xs) same'' ∙ and_assoc (alike p v) (alike q w) (alikes xs);
          final' =
              l
              ∙ ap (λ x. cond (x && (alike p v && alike q w)) (left_by xs (at + suc (length (letters v ++ letters w))) (cond x (cond (alike p v) second first) vars))
              (cond x (cond (alike p v) second first) vars)) same''
              ∙ pair_left (alike p v) (alike q w) (left_by xs (at + suc (length (letters v ++ letters w)))) second first
              ∙ ap₂ (λ x y. cond (alike p v)
              (cond (alike q w) (left_by xs x (ranges q w (suc at + length (letters v)) (ranges p v y vars))) (ranges q w (suc at + length (letters v)) (ranges p v y vars)))
              (ranges p v y vars)) far (sym (add-one at))
              ∙ ap (λ x. cond (alike p v)
              (cond (alike q w) (left_by xs (at + 1 + length (letters v) + length (letters w)) (ranges q w x (ranges p v (at + 1) vars))) (ranges q w x (ranges p v (at + 1) vars)))
              (ranges p v (at + 1) vars)) u;
        }

    go : (xs : Pairs) → drop k code ≡ flats xs ++ (stop ∷ b.rest) → drop at s ≡ texts xs ++ b.more → at + length (texts xs) ≡ end → Fews xs → hit ≡ alikes xs
        → final ≡ left_by xs at vars → Before code s end hit final (k + 1) (at + 1) vars
    go [] c t e f h l = absurd (n (eo ∙ number_here code k _ _ c))
    go ((pvar m, v) ∷ xs) c t e f h l = let x = number_here code k _ _ c in let y = f.0 in absurd (omega (arith, x, eo, y))
    go ((pleaf u, v) ∷ xs) c t e f h l = with_leaf (Goes (pleaf u) xs) u (leaf u xs c f.1) v (begins v xs (number_here code k _ _ c) t) t e h l
    go ((pinj g p, v) ∷ xs) c t e f h l = with_tag (Goes (pinj g p) xs) g (λ u. tag g p xs u c f) v (begins v xs (number_here code k _ _ c) t) t e h l
    go ((pnode m p q, v) ∷ xs) c t e f h l = with_node (Goes (pnode m p q) xs) m (λ u w. node m p q xs u w c f) v (begins v xs (number_here code k _ _ c) t) t e h l
