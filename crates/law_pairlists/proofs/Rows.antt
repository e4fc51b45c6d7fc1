-- Request 07: rows written each once. The tree of a number stays while rows are added, a tree written has its number, and no row stands twice.
use Prim.Native.Nat.{ℕ, zero, suc, ◌≤◌}
use native.Mathlib.Omega.{arith}
use mathlib.Core.Path.{◌≡◌, refl, sym, ap, ap₂, ◌∙◌, subst}
use mathlib.Core.Logic.{◌⊎◌, inl, inr, ⊎_elim}
use mathlib.Core.Bool.{Bool, true, false, cond, ◌&&◌}
use mathlib.Core.Option.{some}
use mathlib.Core.List.Memᴰ
use mathlib.Core.List.{List, [], ◌∷◌, ◌++◌, append_assoc, append-nil, Memᴰ}
use lib.Dec.{eqb}
use lib.ListN.{length, get_elem?}
use Rattle.calculus.specs.Refusals.{Kind}
use Rattle.format.specs.Lines.{Row, letter, kind_of}
use Rattle.law_pairlists.specs.PairLists.{same_row, find, enter, Entry, entry}
use Rattle.calculus.proofs.Basic.{none≢some, some_inj, and_true, true_and, eqb_eq, eq_eqb, not_both, index_mem}
use Rattle.format.proofs.Printing.{kind_of_letter}

-- ---- equal rows

letter_inj : {k l : Kind} → letter k ≡ letter l → k ≡ l
letter_inj {k} {l} e = some_inj (sym (kind_of_letter k) ∙ ap kind_of e ∙ kind_of_letter l)

row_eq : {r s : Row} → r.kind ≡ s.kind → r.x ≡ s.x → r.y ≡ s.y → r.z ≡ s.z → r ≡ s
row_eq k x y z = λ i. record { kind = k i; x = x i; y = y i; z = z i }

pub same_row_eq : (r s : Row) → same_row r s ≡ true → r ≡ s
same_row_eq r s e =
    let a = and_true (eqb (letter r.kind) (letter s.kind)) (eqb r.x s.x && (eqb r.y s.y && eqb r.z s.z)) e in
    let b = and_true (eqb r.x s.x) (eqb r.y s.y && eqb r.z s.z) a.1 in
    let c = and_true (eqb r.y s.y) (eqb r.z s.z) b.1 in
    row_eq (letter_inj (eqb_eq (letter r.kind) (letter s.kind) a.0)) (eqb_eq r.x s.x b.0) (eqb_eq r.y s.y c.0) (eqb_eq r.z s.z c.1)

pub eq_same_row : {r s : Row} → r ≡ s → same_row r s ≡ true
eq_same_row e =
    true_and (eq_eqb (ap (λ (q : Row). letter q.kind) e))
    (true_and (eq_eqb (ap (λ (q : Row). q.x) e)) (true_and (eq_eqb (ap (λ (q : Row). q.y) e)) (eq_eqb (ap (λ (q : Row). q.z) e))))

-- ---- a row entered

-- the row is there, or it comes last
pub data Finding (r : Row) (rs : List Row) : Type 0 where
  there : get_elem? rs (find r rs) ≡ some r → enter r rs ≡ rs → Finding r rs
  fresh : (Memᴰ r rs → ⊥) → find r rs ≡ length rs → enter r rs ≡ rs ++ (r ∷ []) → Finding r rs

not_there : {r s : Row} {ss : List Row} → same_row r s ≡ false → (Memᴰ r ss → ⊥) → Memᴰ r (s ∷ ss) → ⊥
not_there h k (Memᴰ.head e) = not_both (eq_same_row e) h
not_there h k (Memᴰ.tail m) = k m

pub finding : (r : Row) (rs : List Row) → Finding r rs
finding r [] = fresh Memᴰ.not-nil refl refl
finding r (s ∷ ss) = go (same_row r s) refl (finding r ss)
  where
    at_true : same_row r s ≡ true → (find r (s ∷ ss) ≡ 0) × (enter r (s ∷ ss) ≡ s ∷ ss)
    at_true h = (ap (λ b. cond b 0 (suc (find r ss))) h, ap (λ b. cond b (s ∷ ss) (s ∷ enter r ss)) h)

    at_false : same_row r s ≡ false → (find r (s ∷ ss) ≡ suc (find r ss)) × (enter r (s ∷ ss) ≡ s ∷ enter r ss)
    at_false h = (ap (λ b. cond b 0 (suc (find r ss))) h, ap (λ b. cond b (s ∷ ss) (s ∷ enter r ss)) h)

    go : (b : Bool) → same_row r s ≡ b → Finding r ss → Finding r (s ∷ ss)
    go true h f = let t = at_true h in there (ap (get_elem? (s ∷ ss)) t.0 ∙ ap some (sym (same_row_eq r s h))) t.1
    go false h (there g e) = let t = at_false h in there (ap (get_elem? (s ∷ ss)) t.0 ∙ g) (t.1 ∙ ap (λ qs. s ∷ qs) e)
    go false h (fresh g n e) = let t = at_false h in fresh (not_there h g) (t.0 ∙ ap suc n) (t.1 ∙ ap (λ qs. s ∷ qs) e)

-- ---- elements of a list with one more

pub index_front : {A : Type 0} (xs ys : List A) (i : ℕ) {x : A} → get_elem? xs i ≡ some x → get_elem? (xs ++ ys) i ≡ some x
index_front [] ys i e = absurd (none≢some e)
index_front (y ∷ xs) ys zero e = e
index_front (y ∷ xs) ys (suc i) e = index_front xs ys i e

pub index_last : {A : Type 0} (xs : List A) (x : A) → get_elem? (xs ++ (x ∷ [])) (length xs) ≡ some x
index_last [] x = refl
index_last (y ∷ xs) x = index_last xs x

pub index_snoc : {A : Type 0} (xs : List A) (z : A) (i : ℕ) {x : A} → get_elem? (xs ++ (z ∷ [])) i ≡ some x
    → (get_elem? xs i ≡ some x) ⊎ ((i ≡ length xs) × (x ≡ z))
index_snoc [] z zero e = inr (refl, sym (some_inj e))
index_snoc [] z (suc i) e = absurd (none≢some e)
index_snoc (y ∷ xs) z zero e = inl e
index_snoc (y ∷ xs) z (suc i) e = ⊎_elim inl (λ p. inr (ap suc p.0, p.1)) (index_snoc xs z i e)

pub length_snoc : {A : Type 0} (xs : List A) (x : A) → length (xs ++ (x ∷ [])) ≡ suc (length xs)
length_snoc [] x = refl
length_snoc (y ∷ xs) x = ap suc (length_snoc xs x)

-- ---- rows and their trees

-- Rows of one letter: `tree` is what a row unfolds to over the trees above it, `ok n r` says that r is a row of that letter whose fields and names
-- stand below n others, `small` that a tree keeps its ceilings.
module _ {X : Type 0} (tree : List X → Row → X) (ok : ℕ → Row → Type 0) (small : X → Type 0)
    (keep : (ts us : List X) (r : Row) → ok (length ts) r → tree (ts ++ us) r ≡ tree ts r)
    (mono : (m n : ℕ) (r : Row) → m ≤ n → ok m r → ok n r) where
  -- rows written one after another, each new, and their trees
  pub data Stored : List Row → List X → Type 0 where
    nothing : Stored [] []
    more : {rs qs : List Row} {ts us : List X} (r : Row) → Stored rs ts → ok (length ts) r → small (tree ts r) → (Memᴰ r rs → ⊥)
        → qs ≡ rs ++ (r ∷ []) → us ≡ ts ++ (tree ts r ∷ []) → Stored qs us

  pub same_length : {rs : List Row} {ts : List X} → Stored rs ts → length rs ≡ length ts
  same_length nothing = refl
  same_length (more {rs} {ts = ts} r s k l f p q) =
      ap length p ∙ length_snoc rs r ∙ ap suc (same_length s) ∙ sym (length_snoc ts (tree ts r)) ∙ ap length (sym q)

  pub ok_at : {rs : List Row} {ts : List X} → Stored rs ts → (i : ℕ) (r : Row) → get_elem? rs i ≡ some r → ok (length ts) r
  ok_at nothing i r e = absurd (none≢some e)
  ok_at (more {rs} {ts = ts} {us = us} z s k l f p q) i r e = go (λ h. ok_at s i r h) (index_snoc rs z i (subst (λ (x : List Row). get_elem? x i ≡ some r) p e))
    where
      up : length ts ≤ length us
      up = let h = ap length q ∙ length_snoc ts (tree ts z) in omega arith

      go : (get_elem? rs i ≡ some r → ok (length ts) r) → (get_elem? rs i ≡ some r) ⊎ ((i ≡ length rs) × (r ≡ z)) → ok (length us) r
      go below (inl h) = mono (length ts) (length us) r up (below h)
      go below (inr h) = subst (ok (length us)) (sym h.1) (mono (length ts) (length us) z up k)

  -- the tree of each number is what its row unfolds to over all trees
  pub tree_at : {rs : List Row} {ts : List X} → Stored rs ts → (i : ℕ) (r : Row) → get_elem? rs i ≡ some r → get_elem? ts i ≡ some (tree ts r)
  tree_at nothing i r e = absurd (none≢some e)
  tree_at (more {rs} {ts = ts} {us = us} z s k l f p q) i r e = go (λ h. tree_at s i r h) (index_snoc rs z i (subst (λ (x : List Row). get_elem? x i ≡ some r) p e))
    where
      stays : (w : Row) → ok (length ts) w → tree ts w ≡ tree us w
      stays w h = sym (keep ts (tree ts z ∷ []) w h) ∙ ap (λ x. tree x w) (sym q)

      go : (get_elem? rs i ≡ some r → get_elem? ts i ≡ some (tree ts r)) → (get_elem? rs i ≡ some r) ⊎ ((i ≡ length rs) × (r ≡ z))
          → get_elem? us i ≡ some (tree us r)
      go below (inl h) = ap (λ x. get_elem? x i) q ∙ index_front ts (tree ts z ∷ []) i (below h) ∙ ap some (stays r (ok_at s i r h))
      go below (inr h) =
          ap₂ get_elem? q (h.0 ∙ same_length s) ∙ index_last ts (tree ts z) ∙ ap some (stays z k ∙ ap (tree us) (sym h.1))

  -- "no equal line twice"
  pub once : {rs : List Row} {ts : List X} → Stored rs ts → (i j : ℕ) (r : Row) → get_elem? rs i ≡ some r → get_elem? rs j ≡ some r → i ≡ j
  once nothing i j r e d = absurd (none≢some e)
  once (more {rs} z s k l f p q) i j r e d =
      go (λ a b. once s i j r a b) (index_snoc rs z i (subst (λ (x : List Row). get_elem? x i ≡ some r) p e)) (index_snoc rs z j (subst (λ (x : List Row). get_elem? x j ≡ some r) p d))
    where
      go : (get_elem? rs i ≡ some r → get_elem? rs j ≡ some r → i ≡ j) → (get_elem? rs i ≡ some r) ⊎ ((i ≡ length rs) × (r ≡ z)) → (get_elem? rs j ≡ some r) ⊎ ((j ≡ length rs) × (r ≡ z)) → i ≡ j
      go below (inl a) (inl b) = below a b
      go below (inl a) (inr b) = absurd (f (subst (λ w. Memᴰ w rs) b.1 (index_mem rs i a)))
      go below (inr a) (inl b) = absurd (f (subst (λ w. Memᴰ w rs) a.1 (index_mem rs j b)))
      go below (inr a) (inr b) = a.0 ∙ sym b.0

  -- a tree entered: its number unfolds to it, and the trees there before stay
  pub record Entered (e : Entry) (ts : List X) (x : X) : Type 0 where
    pub trees : List X
    pub stored : Stored e.rows trees
    pub added : List X
    pub extends : trees ≡ ts ++ added
    pub here : get_elem? trees e.number ≡ some x

  pub entered : {rs : List Row} {ts : List X} (r : Row) → Stored rs ts → ok (length ts) r → small (tree ts r) → Entered (entry r rs) ts (tree ts r)
  entered {rs} {ts} r s k l = go (finding r rs)
    where
      go : Finding r rs → Entered (entry r rs) ts (tree ts r)
      go (there g e) =
          record { trees = ts; stored = subst (λ x. Stored x ts) (sym e) s; added = []; extends = sym (append-nil ts); here = tree_at s (find r rs) r g }
      go (fresh f n e) =
          record {
            trees = ts ++ (tree ts r ∷ []);
            stored = more r s k l f e refl;
            added = tree ts r ∷ [];
            extends = refl;
            here = ap (get_elem? (ts ++ (tree ts r ∷ []))) (n ∙ same_length s) ∙ index_last ts (tree ts r);
          }

  -- what was there is there
  pub still : {e : Entry} {ts : List X} {x y : X} (h : Entered e ts x) (i : ℕ) → get_elem? ts i ≡ some y → get_elem? h.trees i ≡ some y
  still {ts = ts} h i g = ap (λ z. get_elem? z i) h.extends ∙ index_front ts h.added i g

  -- a tree entered after others
  pub after_others : {e f : Entry} {ts : List X} {x y : X} (h : Entered e ts x) → Entered f h.trees y → Entered f ts y
  after_others {ts = ts} h k =
      record {
        trees = k.trees;
        stored = k.stored;
        added = h.added ++ k.added;
        extends = k.extends ∙ ap (λ z. z ++ k.added) h.extends ∙ append_assoc ts h.added k.added;
        here = k.here;
      }

-- ---- how many rows there are

pub enter_length : (r : Row) (rs : List Row) → length (enter r rs) ≤ suc (length rs)
enter_length r rs = go (finding r rs)
  where
    go : Finding r rs → length (enter r rs) ≤ suc (length rs)
    go (there g e) = let h = ap length e in omega arith
    go (fresh f n e) = let h = ap length e ∙ length_snoc rs r in omega arith

pub enter_grows : (r : Row) (rs : List Row) → length rs ≤ length (enter r rs)
enter_grows r rs = go (finding r rs)
  where
    go : Finding r rs → length rs ≤ length (enter r rs)
    go (there g e) = let h = ap length e in omega arith
    go (fresh f n e) = let h = ap length e ∙ length_snoc rs r in omega arith
