-- Types and isos without lists: the tests decide the judgements, such an iso never calls itself, and it has none of the ceilings' large values.
use Prim.Native.Nat.{ℕ, zero, suc, ◌+◌, ◌<◌, ◌≤◌}
use native.Mathlib.Nat.{not-suc-le-zero, le_of_suc-le-suc, lt_of_lt_of_le, eq-or-lt_of_le}
use native.Mathlib.Omega.{arith}
use mathlib.Core.Path.{◌≡◌, refl, sym, ap, ap₂, ◌∙◌, subst}
use mathlib.Core.Logic.{◌↔◌, ◌⊎◌, inl, inr}
use mathlib.Core.Bool.{Bool, true, false, ◌&&◌, false≢true}
use mathlib.Core.Option.{some}
use mathlib.Core.List.Memᴰ
use mathlib.Core.List.{List, [], ◌∷◌, ◌++◌, map, reverse, reverse-cons, Memᴰ}
use lib.ListN.{get_or, get_elem?, length, length-append}
use Rattle.calculus.specs.Tools.{all}
use Rattle.calculus.specs.Trees.{Ty, tunit, tlist, tsum, tprod, Val, Let, Clause, Iso, invert_let, invert_clause, invert}
use Rattle.calculus.specs.Paper.{Of, Zoned, NeverCalls, Recursion, FileOk, Reaches, Stops}
use Rattle.calculus.specs.Lists.{list_free, free_iso, free_from, free_isos, is_free, Finite, ListFree}
use Rattle.calculus.proofs.Basic.{none≢some, some_inj, and_true, true_and, not_both, all_mem, mem_all}
use Rattle.calculus.proofs.Totality.{Sound, let_given, apply_keeps}
use Rattle.calculus.proofs.Ending.{strictly}

-- ---- types

pub free_finite : (a : Ty) → list_free a ≡ true → Finite a
free_finite tunit e = Finite.unit
free_finite (tlist a) e = absurd (false≢true e)
free_finite (tsum a b) e = let h = and_true (list_free a) (list_free b) e in Finite.sum (free_finite a h.0) (free_finite b h.1)
free_finite (tprod a b) e = let h = and_true (list_free a) (list_free b) e in Finite.product (free_finite a h.0) (free_finite b h.1)

pub finite_free : {a : Ty} → Finite a → list_free a ≡ true
finite_free Finite.unit = refl
finite_free (Finite.sum f g) = true_and (finite_free f) (finite_free g)
finite_free (Finite.product f g) = true_and (finite_free f) (finite_free g)

pub finite_iff : (a : Ty) → (list_free a ≡ true) ↔ Finite a
finite_iff a = (free_finite a, finite_free)

-- ---- isos, by number

get_d_front : (xs ys : List Bool) (j : ℕ) → j < length xs → get_or (xs ++ ys) j true ≡ get_or xs j true
get_d_front [] ys j h = absurd (not-suc-le-zero h)
get_d_front (x ∷ xs) ys zero h = refl
get_d_front (x ∷ xs) ys (suc j) h = get_d_front xs ys j (omega arith)

get_d_last : (xs : List Bool) (x : Bool) → get_or (xs ++ (x ∷ [])) (length xs) true ≡ x
get_d_last [] x = refl
get_d_last (y ∷ xs) x = get_d_last xs x

-- behind the last nothing is known
get_d_beyond : (xs : List Bool) (j : ℕ) → length xs ≤ j → get_or xs j true ≡ true
get_d_beyond [] j h = refl
get_d_beyond (x ∷ xs) zero h = absurd (not-suc-le-zero h)
get_d_beyond (x ∷ xs) (suc j) h = get_d_beyond xs j (omega arith)

-- what is known stays
kept : (known : List Bool) (os : List Iso) (j : ℕ) → j < length known → get_or (free_from known os) j true ≡ get_or known j true
kept known [] j h = refl
kept known (o ∷ os) j h =
    let s : Bool = free_iso known o in
    let n = length-append known (s ∷ []) in
    kept (known ++ (s ∷ [])) os j (omega arith) ∙ get_d_front known (s ∷ []) j h

-- what is said of an iso, and what of the earlier ones it was found from
record Found (whole : List Bool) (n : ℕ) (o : Iso) : Type 0 where
  known : List Bool
  is : get_or whole n true ≡ free_iso known o
  earlier : (j : ℕ) → j < n → get_or known j true ≡ get_or whole j true
  own : get_or known n true ≡ true

found : (known : List Bool) (os : List Iso) (i : ℕ) {o : Iso} → get_elem? os i ≡ some o → Found (free_from known os) (length known + i) o
found known [] i e = absurd (none≢some e)
found known (n ∷ os) zero {o} e =
    let s : Bool = free_iso known n in
    let l = length-append known (s ∷ []) in
    record {
      known = known;
      is =
          ap (λ k. get_or (free_from (known ++ (s ∷ [])) os) k true) (omega arith)
          ∙ kept (known ++ (s ∷ [])) os (length known) (omega arith)
          ∙ get_d_last known s
          ∙ ap (free_iso known) (some_inj e);
      earlier = λ j h. sym (kept known (n ∷ os) j (omega arith));
      own = get_d_beyond known (length known + zero) (omega arith);
    }
found known (n ∷ os) (suc i) {o} e =
    let s : Bool = free_iso known n in
    let l = length-append known (s ∷ []) in
    subst (λ k. Found (free_from (known ++ (s ∷ [])) os) k o) (omega arith) (found (known ++ (s ∷ [])) os i e)

-- where one stands, one stands before it
below : {A : Type 0} (xs : List A) (j i : ℕ) {x : A} → j < i → get_elem? xs i ≡ some x → (y : A) × (get_elem? xs j ≡ some y)
below [] j i h e = absurd (none≢some e)
below (y ∷ xs) zero i h e = (y, refl)
below (y ∷ xs) (suc j) zero h e = absurd (not-suc-le-zero h)
below (y ∷ xs) (suc j) (suc i) h e = below xs j i (le_of_suc-le-suc h) e

-- a let step names an earlier iso, or its own
abbrev pub EarlierOrOwn : List Iso → Type 0
EarlierOrOwn os = (i : ℕ) (o : Iso) → get_elem? os i ≡ some o → (c : Clause) → Memᴰ c o.clauses → (l : Let) → Memᴰ l c.lets → l.iso ≤ i

module _ (os : List Iso) (near : EarlierOrOwn os) where
  at : (i : ℕ) {o : Iso} → get_elem? os i ≡ some o → Found (free_from [] os) i o
  at i {o} e = subst (λ k. Found (free_from [] os) k o) (omega arith) (found [] os i e)

  -- an iso that is free has free types, and all that it calls is free
  free_own : (i : ℕ) {o : Iso} → get_elem? os i ≡ some o → is_free os i ≡ true → Finite o.from × Finite o.to
  unfolding free_isos
  free_own i {o} e h =
      let x = and_true (list_free o.from && list_free o.to) _ (sym (at i e).is ∙ h) in
      let y = and_true (list_free o.from) (list_free o.to) x.0 in
      (free_finite o.from y.0, free_finite o.to y.1)

  free_calls : (i : ℕ) (o : Iso) → get_elem? os i ≡ some o → is_free os i ≡ true → (c : Clause) → Memᴰ c o.clauses → (l : Let) → Memᴰ l c.lets
      → is_free os l.iso ≡ true
  unfolding free_isos
  free_calls i o e h c m l k = go (eq-or-lt_of_le (near i o e c m l k))
    where
      r : Found (free_from [] os) i o
      r = at i e

      called : get_or r.known l.iso true ≡ true
      called =
          let x = and_true (list_free o.from && list_free o.to) _ (sym r.is ∙ h) in
          all_mem (λ l. get_or r.known l.iso true) (all_mem (λ c. all (λ l. get_or r.known l.iso true) c.lets) x.1 m) k

      go : (l.iso ≡ i) ⊎ (l.iso < i) → get_or (free_from [] os) l.iso true ≡ true
      go (inl same) = ap (λ j. get_or (free_from [] os) j true) same ∙ h
      go (inr less) = sym (r.earlier l.iso less) ∙ called

  -- the test decides the judgement
  free_list : {i j : ℕ} → is_free os i ≡ true → Reaches os i j → (o : Iso) → get_elem? os j ≡ some o → Finite o.from × Finite o.to
  free_list {i} h (Reaches.itself e) o f = free_own i (ap (get_elem? os) e ∙ f) h
  free_list {i} h (Reaches.through p c l e m k r) o f = free_list (free_calls i p e h c m l k) r o f

  list_to : (n i : ℕ) → i < n → (o : Iso) → get_elem? os i ≡ some o → ListFree os i → is_free os i ≡ true
  unfolding free_isos
  list_to zero i h o e free = absurd (not-suc-le-zero h)
  list_to (suc n) i h o e free =
      let r = at i e in
      let own = free i o (Reaches.itself refl) e in
      r.is
      ∙ true_and (true_and (finite_free own.0) (finite_free own.1))
      (mem_all (λ c. all (λ l. get_or r.known l.iso true) c.lets) o.clauses
      (λ c m. mem_all (λ l. get_or r.known l.iso true) c.lets
      (λ l k. step r l (near i o e c m l k) (λ less q f. list_to n l.iso (lt_of_lt_of_le less (le_of_suc-le-suc h)) q f
      (λ j p reach. free j p (Reaches.through o c l e m k reach))))))
    where
      step : (r : Found (free_from [] os) i o) (l : Let) → l.iso ≤ i
          → (l.iso < i → (q : Iso) → get_elem? os l.iso ≡ some q → get_or (free_from [] os) l.iso true ≡ true) → get_or r.known l.iso true ≡ true
      step r l near rec = go (eq-or-lt_of_le near)
        where
          there : l.iso < i → (q : Iso) × (get_elem? os l.iso ≡ some q)
          there less = below os l.iso i less e

          go : (l.iso ≡ i) ⊎ (l.iso < i) → get_or r.known l.iso true ≡ true
          go (inl same) = ap (λ j. get_or r.known j true) same ∙ r.own
          go (inr less) = let (q, f) = there less in r.earlier l.iso less ∙ rec less q f

  pub free_iff : (i : ℕ) (o : Iso) → get_elem? os i ≡ some o → (is_free os i ≡ true) ↔ ListFree os i
  free_iff i o e = (λ h j p r f. free_list h r p f, λ free. list_to (suc i) i (omega arith) o e free)

-- ---- an iso without lists

not_zoned : {a : Ty} → Finite a → Zoned a → ⊥
not_zoned (Finite.product f g) Zoned.product = elim f [ ]
not_zoned Finite.unit x3 = elim x3 [ ]
not_zoned (Finite.sum {a = a} {b = b} _ _) x8 = elim x8 [ ]

-- it does not call itself
pub free_never : (os : List Iso) → FileOk os → (i : ℕ) → ListFree os i → (o : Iso) → get_elem? os i ≡ some o → NeverCalls i o
free_never os ok i free o e = go (ok i o e).recursion
  where
    own : Finite o.from × Finite o.to
    own = free i o (Reaches.itself refl) e

    go : Recursion i o → NeverCalls i o
    go (Recursion.never h) = h
    go (Recursion.written s) = absurd (not_zoned own.0 s.zone)
    go (Recursion.turned s) = absurd (not_zoned own.1 s.zone)

-- what it calls is without lists too, and earlier
pub free_called : (os : List Iso) (i : ℕ) → ListFree os i → (o : Iso) → get_elem? os i ≡ some o → (c : Clause) → Memᴰ c o.clauses
    → (l : Let) → Memᴰ l c.lets → ListFree os l.iso
free_called os i free o e c m l k j p reach = free j p (Reaches.through o c l e m k reach)

pub free_earlier : (os : List Iso) → EarlierOrOwn os → FileOk os → (i : ℕ) → ListFree os i → (o : Iso) → get_elem? os i ≡ some o
    → (c : Clause) → Memᴰ c o.clauses → (l : Let) → Memᴰ l c.lets → l.iso < i
free_earlier os near ok i free o e c m l k = strictly l.iso i (near i o e c m l k) (free_never os ok i free o e c m l k)

module _ {os : List Iso} (S : Sound os) (ok : FileOk os) (fits : Val → Bool)
    (few : (i : ℕ) (o : Iso) → get_elem? os i ≡ some o → (v : Val) → (Finite o.from → Of v o.from → fits v ≡ true) × (Finite o.to → Of v o.to → fits v ≡ true)) where
  -- where its values pass the test, it meets no ceiling that is deeper than the iso's number
  pub never_stops : {d i k : ℕ} {v : Val} → Stops os fits d i v k → i < d → ListFree os i → (o : Iso) → get_elem? os i ≡ some o → Of v o.from → ⊥
  never_stops Stops.deep l free o e t = not-suc-le-zero l
  never_stops {v = v} (Stops.argument {i = i} h) l free o e t = not_both ((few i o e v).0 (free i o (Reaches.itself refl) e).0 t) h
  never_stops {v = v} (Stops.inside {d = d} {i = i} q c ls m ls' ε δ φ k j u x known member bound splits runs builds inner z) l free o e t =
      let mine = subst (λ y. Of v y.from) (some_inj (sym e ∙ known)) t in
      let g = let_given S fits i q known c member mine ls m ls' splits d bound runs builds in
      let inside = subst (Memᴰ m) (sym splits) (Memᴰ.append_right ls (Memᴰ.head refl)) in
      let lower = free_earlier os S.earlier ok i free q known c member m inside in
      never_stops inner (lt_of_lt_of_le lower (le_of_suc-le-suc l)) (free_called os i free q known c member m inside) g.0 g.1 g.2
  never_stops {v = v} (Stops.result {d = d} {i = i} q w k x known applies h z) l free o e t =
      let mine = subst (λ y. Of v y.from) (some_inj (sym e ∙ known)) t in
      not_both ((few i q known w).1 (free i q (Reaches.itself refl) known).1 (apply_keeps S fits d i q known v w k mine applies)) h

-- ---- inverted

and_swap : (a b : Bool) → (a && b) ≡ (b && a)
and_swap true true = refl
and_swap true false = refl
and_swap false true = refl
and_swap false false = refl

all_append : {A : Type 0} (f : A → Bool) (xs ys : List A) → all f (xs ++ ys) ≡ (all f xs && all f ys)
all_append f [] ys = refl
all_append f (x ∷ xs) ys = go (f x) (all_append f xs ys)
  where
    go : (b : Bool) → all f (xs ++ ys) ≡ (all f xs && all f ys) → (b && all f (xs ++ ys)) ≡ ((b && all f xs) && all f ys)
    go true h = h
    go false h = refl

all_reverse : {A : Type 0} (f : A → Bool) (xs : List A) → all f (reverse xs) ≡ all f xs
all_reverse f [] = refl
all_reverse f (x ∷ xs) =
    ap (all f) (reverse-cons x xs) ∙ all_append f (reverse xs) (x ∷ []) ∙ ap (λ b. b && (f x && true)) (all_reverse f xs) ∙ and_swap (all f xs) (f x && true)
    ∙ go (f x)
  where
    go : (b : Bool) → ((b && true) && all f xs) ≡ (b && all f xs)
    go true = refl
    go false = refl

all_map : {A B : Type 0} (f : B → Bool) (g : A → B) (xs : List A) → all f (map g xs) ≡ all (λ x. f (g x)) xs
all_map f g [] = refl
all_map f g (x ∷ xs) = ap (λ b. f (g x) && b) (all_map f g xs)

all_each : {A : Type 0} (f g : A → Bool) (xs : List A) → ((x : A) → f x ≡ g x) → all f xs ≡ all g xs
all_each f g [] h = refl
all_each f g (x ∷ xs) h = ap₂ ◌&&◌ (h x) (all_each f g xs h)

free_iso_invert : (known : List Bool) (o : Iso) → free_iso known (invert o) ≡ free_iso known o
free_iso_invert known o = ap₂ ◌&&◌ (and_swap (list_free o.to) (list_free o.from)) (all_map in_clause invert_clause o.clauses ∙ all_each _ in_clause o.clauses one)
  where
    in_clause : Clause → Bool
    in_clause c = all (λ l. get_or known l.iso true) c.lets

    one : (c : Clause) → in_clause (invert_clause c) ≡ in_clause c
    one c = all_reverse (λ l. get_or known l.iso true) (map invert_let c.lets) ∙ all_map (λ l. get_or known l.iso true) invert_let c.lets

free_from_invert : (known : List Bool) (os : List Iso) → free_from known (map invert os) ≡ free_from known os
free_from_invert known [] = refl
free_from_invert known (o ∷ os) =
    ap (λ b. free_from (known ++ (b ∷ [])) (map invert os)) (free_iso_invert known o) ∙ free_from_invert (known ++ (free_iso known o ∷ [])) os

pub free_invert : (os : List Iso) → free_isos (map invert os) ≡ free_isos os
unfolding free_isos
free_invert os = free_from_invert [] os
