-- The closed values of a type by their letters: the list of those with n letters holds each once, in byte order, so the first that passes
-- a test is the least (request 09).
use Prim.Native.Nat.{ℕ, zero, suc, ◌+◌, ◌<◌, ◌≤◌}
use native.Mathlib.Nat.{eq-or-lt_of_le}
use native.Mathlib.Omega.{arith}
use mathlib.Core.Path.{◌≡◌, refl, sym, ap, ap₂, ◌∙◌, subst}
use mathlib.Core.Logic.{◌⊎◌, inl, inr}
use mathlib.Core.Bool.{Bool, true, false, cond}
use mathlib.Core.Option.{Option, none, some}
use mathlib.Core.List.Memᴰ
use mathlib.Core.List.{List, [], ◌∷◌, ◌++◌, map, append_assoc, append-nil, Memᴰ}
use lib.ListN.{length}
use Rattle.limits.specs.Limits.{result_length}
use Rattle.calculus.specs.Tools.{concat, first_of, or_else}
use Rattle.calculus.specs.Trees.{Ty, tunit, tlist, tsum, tprod, Leaf, unit_leaf, empty_leaf, Tag, left, right, Node, pair_node, element_node, Val, vleaf, vnode, part}
use Rattle.calculus.specs.Letters.{leaf_letter, letter_of, node_letter, letters}
use Rattle.calculus.specs.Paper.{Of}
use Rattle.law_witnesses.specs.Showing.{Move, leaf, tag, node, letter_on, moves, made, spelled, the, values_with, find, count_up, setting, Least}
use Rattle.law_witnesses.specs.Seeking.{on}
use Rattle.calculus.proofs.Basic.{none≢some, some_inj, not_both, each_nil, each_cons}
use Rattle.calculus.proofs.Letters.{letters_injective}
use Rattle.law_witnesses.proofs.Shortlex.{Upto, done, lower, same, NotAfter, fewer, earlier, not_after_sooner, sooner_not_after, not_after_antisym}

-- ---- values side by side

pub data Ofs : List Val → List Ty → Type 0 where
  ends : Ofs [] []
  also : {v : Val} {a : Ty} {vs : List Val} {ts : List Ty} → Of v a → Ofs vs ts → Ofs (v ∷ vs) (a ∷ ts)

abbrev pub all_letters : List Val → List ℕ
all_letters vs = concat (map letters vs)

-- a letter before values gives values
abbrev pub Sound : Ty → Move × List Ty → Type 0
Sound a m = (ts : List Ty) (vs : List Val) → Ofs vs (m.1 ++ ts) → Ofs (made m.0 vs) (a ∷ ts) × (all_letters (made m.0 vs) ≡ letter_on m.0 ∷ all_letters vs)

tag_sound : (t : Tag) (a b : Ty) → Sound (tsum a b) (tag t, part t a b ∷ [])
tag_sound t a b ts us (also h o) = (also (Of.inj h) o, refl)

leaf_sound : (l : Leaf) (c : Ty) → Of (vleaf l) c → Sound c (leaf l, [])
leaf_sound l c h ts vs o = (also h o, refl)

node_sound : (n : Node) (a b c : Ty) → ((v w : Val) → Of v a → Of w b → Of (vnode n v w) c) → Sound c (node n, a ∷ (b ∷ []))
node_sound n a b c f ts us (also {v = v} h (also {v = w} {vs = vs} k o)) =
    (also (f v w h k) o, ap (λ l. node_letter n ∷ l) (append_assoc (letters v) (letters w) (all_letters vs)))

pub sound : (a : Ty) (m : Move × List Ty) → Memᴰ m (moves a) → Sound a m
sound tunit = each_cons (Sound tunit) (leaf_sound unit_leaf tunit Of.unit) (each_nil (Sound tunit))
sound (tlist a) =
    each_cons (Sound (tlist a)) (node_sound element_node a (tlist a) (tlist a) (λ v w h k. Of.cons h k))
    (each_cons (Sound (tlist a)) (leaf_sound empty_leaf (tlist a) Of.nil) (each_nil (Sound (tlist a))))
sound (tsum a b) =
    each_cons (Sound (tsum a b)) (tag_sound left a b) (each_cons (Sound (tsum a b)) (tag_sound right a b) (each_nil (Sound (tsum a b))))
sound (tprod a b) = each_cons (Sound (tprod a b)) (node_sound pair_node a b (tprod a b) (λ v w h k. Of.pair h k)) (each_nil (Sound (tprod a b)))

-- values begin with a letter of a list
pub record Began (ms : List (Move × List Ty)) (ts : List Ty) (ws : List Val) : Type 0 where
  pub move : Move × List Ty
  pub mem : Memᴰ move ms
  pub rest : List Val
  pub is : made move.0 rest ≡ ws
  pub of : Ofs rest (move.1 ++ ts)

pub begun : {ws : List Val} {a : Ty} {ts : List Ty} → Ofs ws (a ∷ ts) → Began (moves a) ts ws
begun (also {vs = vs} Of.unit o) = record { move = (leaf unit_leaf, []); mem = Memᴰ.head refl; rest = vs; is = refl; of = o }
begun (also {vs = vs} (Of.inj {t = left} {v} {a} {b} h) o) =
    record { move = (tag left, a ∷ []); mem = Memᴰ.head refl; rest = v ∷ vs; is = refl; of = also h o }
begun (also {vs = vs} (Of.inj {t = right} {v} {a} {b} h) o) =
    record { move = (tag right, b ∷ []); mem = Memᴰ.tail (Memᴰ.head refl); rest = v ∷ vs; is = refl; of = also h o }
begun (also {vs = vs} (Of.pair {v} {w} {a} {b} h k) o) =
    record { move = (node pair_node, a ∷ (b ∷ [])); mem = Memᴰ.head refl; rest = v ∷ (w ∷ vs); is = refl; of = also h (also k o) }
begun (also {vs = vs} (Of.nil) o) = record { move = (leaf empty_leaf, []); mem = Memᴰ.tail (Memᴰ.head refl); rest = vs; is = refl; of = o }
begun (also {vs = vs} (Of.cons {v} {w} {a} h k) o) =
    record { move = (node element_node, a ∷ (tlist a ∷ [])); mem = Memᴰ.head refl; rest = v ∷ (w ∷ vs); is = refl; of = also h (also k o) }

-- the letters rise
pub data Rising : List (Move × List Ty) → Type 0 where
  flat : Rising []
  rise : {m : Move × List Ty} {ms : List (Move × List Ty)} → ((k : Move × List Ty) → Memᴰ k ms → letter_on m.0 < letter_on k.0) → Rising ms → Rising (m ∷ ms)

left_right : letter_of left < letter_of right
left_right = omega arith

element_empty : node_letter element_node < leaf_letter empty_leaf
element_empty = omega arith

pub rising : (a : Ty) → Rising (moves a)
rising tunit = rise (each_nil (λ k. leaf_letter unit_leaf < letter_on k.0)) flat
rising (tlist a) =
    rise (each_cons (λ k. node_letter element_node < letter_on k.0) element_empty (each_nil (λ k. node_letter element_node < letter_on k.0)))
    (rise (each_nil (λ k. leaf_letter empty_leaf < letter_on k.0)) flat)
rising (tsum a b) =
    rise (each_cons (λ k. letter_of left < letter_on k.0) left_right (each_nil (λ k. letter_of left < letter_on k.0)))
    (rise (each_nil (λ k. letter_of right < letter_on k.0)) flat)
rising (tprod a b) = rise (each_nil (λ k. node_letter pair_node < letter_on k.0)) flat

-- ---- the first that passes

pub find_append : {A : Type 0} (f : A → Bool) (xs ys : List A) → find f (xs ++ ys) ≡ or_else (find f xs) (find f ys)
find_append f [] ys = refl
find_append {A} f (x ∷ xs) ys = go (f x) (find_append f xs ys)
  where
    go : (b : Bool) → find f (xs ++ ys) ≡ or_else (find f xs) (find f ys)
        → cond b (some x) (find f (xs ++ ys)) ≡ or_else (cond b (some x) (find f xs)) (find f ys)
    go true e = refl
    go false e = e

pub find_map : {A B : Type 0} (f : B → Bool) (g : A → B) (xs : List A) → find f (map g xs) ≡ on g (find (λ x. f (g x)) xs)
find_map f g [] = refl
find_map f g (x ∷ xs) = go (f (g x)) (find_map f g xs)
  where
    go : (b : Bool) → find f (map g xs) ≡ on g (find (λ y. f (g y)) xs)
        → cond b (some (g x)) (find f (map g xs)) ≡ on g (cond b (some x) (find (λ y. f (g y)) xs))
    go true e = refl
    go false e = e

pub find_concat : {A B : Type 0} (f : B → Bool) (h : A → List B) (ms : List A) → find f (concat (map h ms)) ≡ first_of (λ m. find f (h m)) ms
find_concat f h [] = refl
find_concat f h (m ∷ ms) = find_append f (h m) (concat (map h ms)) ∙ ap (or_else (find f (h m))) (find_concat f h ms)

pub first_of_ext : {A B : Type 0} {f g : A → Option B} (xs : List A) → ((x : A) → f x ≡ g x) → first_of f xs ≡ first_of g xs
first_of_ext [] h = refl
first_of_ext (x ∷ xs) h = ap₂ or_else (h x) (first_of_ext xs h)

-- one letter further
pub find_step : (f : List Val → Bool) (n : ℕ) (a : Ty) (ts : List Ty)
    → find f (spelled (suc n) (a ∷ ts)) ≡ first_of (λ m. on (made m.0) (find (λ vs. f (made m.0 vs)) (spelled n (m.1 ++ ts)))) (moves a)
find_step f n a ts =
    find_concat f (λ m. map (made m.0) (spelled n (m.1 ++ ts))) (moves a)
    ∙ first_of_ext (moves a) (λ m. find_map f (made m.0) (spelled n (m.1 ++ ts)))

-- what a search among values with n letters gives: the first that passes, or nothing where none does
pub data Search (f : List Val → Bool) (n : ℕ) (Q : List Val → Type 0) : Option (List Val) → Type 0 where
  found : {vs : List Val} → Q vs → length (all_letters vs) ≡ n → f vs ≡ true
      → ((ws : List Val) → Q ws → length (all_letters ws) ≡ n → f ws ≡ true → Upto (all_letters vs) (all_letters ws)) → Search f n Q (some vs)
  nothing : ((ws : List Val) → Q ws → length (all_letters ws) ≡ n → f ws ≡ true → ⊥) → Search f n Q none

module _ (f : List Val → Bool) (n : ℕ) (a : Ty) (ts : List Ty) where
  abbrev Below : Move × List Ty → Type 0
  Below m = Search (λ vs. f (made m.0 vs)) n (λ vs. Ofs vs (m.1 ++ ts)) (find (λ vs. f (made m.0 vs)) (spelled n (m.1 ++ ts)))

  abbrev under : Move × List Ty → Option (List Val)
  under m = on (made m.0) (find (λ vs. f (made m.0 vs)) (spelled n (m.1 ++ ts)))

  abbrev Counts : List Val → Type 0
  Counts ws = (length (all_letters ws) ≡ suc n) × (f ws ≡ true)

  -- what begins with m, taken apart
  parts : (m : Move × List Ty) → Sound a m → {ws : List Val} (rest : List Val) → made m.0 rest ≡ ws → Ofs rest (m.1 ++ ts) → Counts ws
      → (length (all_letters rest) ≡ n) × (f (made m.0 rest) ≡ true) × (all_letters ws ≡ letter_on m.0 ∷ all_letters rest)
  parts m s {ws} rest e o c =
      let h : all_letters ws ≡ letter_on m.0 ∷ all_letters rest = ap all_letters (sym e) ∙ (s ts rest o).1 in
      let l = ap length h in
      let k = c.0 in
      (omega arith, ap f e ∙ c.1, h)

  -- m stands first
  first_found : (m : Move × List Ty) (ms : List (Move × List Ty)) → Sound a m → ((k : Move × List Ty) → Memᴰ k ms → Sound a k)
      → ((k : Move × List Ty) → Memᴰ k ms → letter_on m.0 < letter_on k.0) → (vs : List Val) → Ofs vs (m.1 ++ ts) → length (all_letters vs) ≡ n
      → ((ws : List Val) → Ofs ws (m.1 ++ ts) → length (all_letters ws) ≡ n → f (made m.0 ws) ≡ true → Upto (all_letters vs) (all_letters ws))
      → (ws : List Val) (b : Began (m ∷ ms) ts ws) → Counts ws → Upto (all_letters (made m.0 vs)) (all_letters ws)
  first_found m ms s ss low vs o l least ws b c = go b.move b.mem b.rest b.is b.of
    where
      head : all_letters (made m.0 vs) ≡ letter_on m.0 ∷ all_letters vs
      head = (s ts vs o).1

      same_move : (rest : List Val) → made m.0 rest ≡ ws → Ofs rest (m.1 ++ ts) → Upto (all_letters (made m.0 vs)) (all_letters ws)
      same_move rest e r =
          let p = parts m s rest e r c in
          subst (Upto (all_letters (made m.0 vs))) (sym p.2) (subst (λ x. Upto x (letter_on m.0 ∷ all_letters rest)) (sym head) (same refl (least rest r p.0 p.1)))

      later_move : (k : Move × List Ty) → Memᴰ k ms → (rest : List Val) → made k.0 rest ≡ ws → Ofs rest (k.1 ++ ts)
          → Upto (all_letters (made m.0 vs)) (all_letters ws)
      later_move k i rest e r =
          let p = parts k (ss k i) rest e r c in
          subst (Upto (all_letters (made m.0 vs))) (sym p.2) (subst (λ x. Upto x (letter_on k.0 ∷ all_letters rest)) (sym head) (lower (low k i) (l ∙ sym p.0)))

      go : (k : Move × List Ty) → Memᴰ k (m ∷ ms) → (rest : List Val) → made k.0 rest ≡ ws → Ofs rest (k.1 ++ ts)
          → Upto (all_letters (made m.0 vs)) (all_letters ws)
      go k (Memᴰ.head e) =
          subst (λ j. (rest : List Val) → made j.0 rest ≡ ws → Ofs rest (j.1 ++ ts) → Upto (all_letters (made m.0 vs)) (all_letters ws)) (sym e) same_move
      go k (Memᴰ.tail i) = later_move k i

  -- nothing begins with m, so what counts begins with another
  beyond : (m : Move × List Ty) (ms : List (Move × List Ty)) → Sound a m
      → ((ws : List Val) → Ofs ws (m.1 ++ ts) → length (all_letters ws) ≡ n → f (made m.0 ws) ≡ true → ⊥)
      → (ws : List Val) (b : Began (m ∷ ms) ts ws) → Counts ws → Began ms ts ws
  beyond m ms s h ws b c = go b.move b.mem b.rest b.is b.of
    where
      none_here : (rest : List Val) → made m.0 rest ≡ ws → Ofs rest (m.1 ++ ts) → Began ms ts ws
      none_here rest e r = let p = parts m s rest e r c in absurd (h rest r p.0 p.1)

      go : (k : Move × List Ty) → Memᴰ k (m ∷ ms) → (rest : List Val) → made k.0 rest ≡ ws → Ofs rest (k.1 ++ ts) → Began ms ts ws
      go k (Memᴰ.head e) =
          subst (λ j. (rest : List Val) → made j.0 rest ≡ ws → Ofs rest (j.1 ++ ts) → Began ms ts ws) (sym e) none_here
      go k (Memᴰ.tail i) = λ rest e r. record { move = k; mem = i; rest = rest; is = e; of = r }

  later : {m : Move × List Ty} {ms : List (Move × List Ty)} {ws : List Val} → Began ms ts ws → Began (m ∷ ms) ts ws
  later b = record { move = b.move; mem = Memᴰ.tail b.mem; rest = b.rest; is = b.is; of = b.of }

  in_moves : (ms : List (Move × List Ty)) → ((m : Move × List Ty) → Memᴰ m ms → Sound a m) → Rising ms → ((m : Move × List Ty) → Below m)
      → Search f (suc n) (Began ms ts) (first_of under ms)
  in_moves [] s r below = nothing (λ ws b l p. Memᴰ.not-nil b.mem)
  in_moves (m ∷ ms) s (rise low r) below =
      go (find (λ vs. f (made m.0 vs)) (spelled n (m.1 ++ ts))) (below m) (in_moves ms (λ k i. s k (Memᴰ.tail i)) r below)
    where
      sm : Sound a m
      sm = s m (Memᴰ.head refl)

      rest_of : ((ws : List Val) → Ofs ws (m.1 ++ ts) → length (all_letters ws) ≡ n → f (made m.0 ws) ≡ true → ⊥)
          → (y : Option (List Val)) → Search f (suc n) (Began ms ts) y → Search f (suc n) (Began (m ∷ ms) ts) y
      rest_of h (some vs) (found q l p least) = found (later q) l p (λ ws b k t. least ws (beyond m ms sm h ws b (k, t)) k t)
      rest_of h none (nothing none_there) = nothing (λ ws b k t. none_there ws (beyond m ms sm h ws b (k, t)) k t)

      go : (x : Option (List Val)) → Search (λ vs. f (made m.0 vs)) n (λ vs. Ofs vs (m.1 ++ ts)) x → Search f (suc n) (Began ms ts) (first_of under ms)
          → Search f (suc n) (Began (m ∷ ms) ts) (or_else (on (made m.0) x) (first_of under ms))
      go (some vs) (found o l p least) others =
          found
          (record { move = m; mem = Memᴰ.head refl; rest = vs; is = refl; of = o })
          (ap length (sm ts vs o).1 ∙ ap suc l)
          p
          (λ ws b k t. first_found m ms sm (λ j i. s j (Memᴰ.tail i)) low vs o l least ws b (k, t))
      go none (nothing h) others = rest_of h (first_of under ms) others

-- the same values under another description
renamed : {f : List Val → Bool} {n : ℕ} {Q R : List Val → Type 0} → ((ws : List Val) → Q ws → R ws) → ((ws : List Val) → R ws → Q ws) → (x : Option (List Val))
    → Search f n Q x → Search f n R x
renamed to back (some vs) (found q l p least) = found (to vs q) l p (λ ws r. least ws (back ws r))
renamed to back none (nothing h) = nothing (λ ws r. h ws (back ws r))

unbegun : (a : Ty) (ts : List Ty) (ws : List Val) → Began (moves a) ts ws → Ofs ws (a ∷ ts)
unbegun a ts ws b = subst (λ x. Ofs x (a ∷ ts)) b.is (sound a b.move b.mem ts b.rest b.of).0

-- the first of the values with n letters that passes a test comes first in byte order
pub search_values : (n : ℕ) (ts : List Ty) (f : List Val → Bool) → Search f n (λ vs. Ofs vs ts) (find f (spelled n ts))
search_values zero [] f = go (f []) refl
  where
    go : (b : Bool) → f [] ≡ b → Search f 0 (λ vs. Ofs vs []) (cond b (some []) none)
    go true e = found ends refl e (λ ws o l p. only ws o)
      where
        only : (ws : List Val) → Ofs ws [] → Upto [] (all_letters ws)
        only [] ends = done
        only (_ ∷ _) x4 = elim x4 [ ]
    go false e = nothing (λ ws o l p. only ws o p)
      where
        only : (ws : List Val) → Ofs ws [] → f ws ≡ true → ⊥
        only [] ends p = not_both p e
        only (_ ∷ _) x5 p = elim x5 [ ]
search_values zero (a ∷ ts) f = nothing
    (λ ws o l p. let b = begun o in let k = (sound a b.move b.mem ts b.rest b.of).1 in let j = ap length (ap all_letters (sym b.is) ∙ k) in absurd (omega arith))
search_values (suc n) [] f = nothing (λ ws o l p. only ws o l)
  where
    only : (ws : List Val) → Ofs ws [] → length (all_letters ws) ≡ suc n → ⊥
    only [] ends l = absurd (omega arith)
    only (_ ∷ _) x4 l = elim x4 [ ]
search_values (suc n) (a ∷ ts) f =
    subst (Search f (suc n) (λ vs. Ofs vs (a ∷ ts))) (sym (find_step f n a ts))
    (renamed (unbegun a ts) (λ ws o. begun o) (first_of (under f n a ts) (moves a))
    (in_moves f n a ts (moves a) (sound a) (rising a) (λ m. search_values n (m.1 ++ ts) (λ vs. f (made m.0 vs)))))

-- ---- one type

pub one_ofs : (a : Ty) (vs : List Val) → Ofs vs (a ∷ []) → (v : Val) × (vs ≡ v ∷ []) × Of v a
one_ofs a vs (also {v = v} h ends) = (v, refl, h)

pub one_letters : (v : Val) → all_letters (v ∷ []) ≡ letters v
one_letters v = append-nil (letters v)

pub data FoundOne (f : Val → Bool) (n : ℕ) (a : Ty) : Option Val → Type 0 where
  one : {v : Val} → Of v a → length (letters v) ≡ n → f v ≡ true
      → ((w : Val) → Of w a → length (letters w) ≡ n → f w ≡ true → Upto (letters v) (letters w)) → FoundOne f n a (some v)
  not_one : ((w : Val) → Of w a → length (letters w) ≡ n → f w ≡ true → ⊥) → FoundOne f n a none

pub search_one : (n : ℕ) (a : Ty) (f : Val → Bool) → FoundOne f n a (find f (values_with n a))
search_one n a f =
    subst (FoundOne f n a) (sym (find_map f the (spelled n (a ∷ []))))
    (go (find (λ vs. f (the vs)) (spelled n (a ∷ []))) (search_values n (a ∷ []) (λ vs. f (the vs))))
  where
    count : (w : Val) → length (letters w) ≡ n → length (all_letters (w ∷ [])) ≡ n
    count w l = ap length (one_letters w) ∙ l

    take_found : (vs : List Val) (v : Val) → vs ≡ v ∷ [] → Of v a → length (all_letters vs) ≡ n → f (the vs) ≡ true
        → ((ws : List Val) → Ofs ws (a ∷ []) → length (all_letters ws) ≡ n → f (the ws) ≡ true → Upto (all_letters vs) (all_letters ws))
        → FoundOne f n a (some (the vs))
    take_found vs v e h l p least =
        let e' : the vs ≡ v = ap the e in
        let k : all_letters vs ≡ letters v = ap all_letters e ∙ one_letters v in
        subst (λ u. FoundOne f n a (some u)) (sym e')
        (one h (ap length (sym k) ∙ l) (ap f (sym e') ∙ p)
        (λ w o m t. subst (λ x. Upto x (letters w)) k (subst (Upto (all_letters vs)) (one_letters w) (least (w ∷ []) (also o ends) (count w m) t))))

    go : (x : Option (List Val)) → Search (λ vs. f (the vs)) n (λ vs. Ofs vs (a ∷ [])) x → FoundOne f n a (on the x)
    go (some vs) (found o l p least) = let r = one_ofs a vs o in take_found vs r.0 r.1 r.2 l p least
    go none (nothing h) = not_one (λ w o l p. h (w ∷ []) (also o ends) (count w l) p)

-- ---- numbers of letters in turn

pub data FoundFrom (f : Val → Bool) (a : Ty) (k n : ℕ) : Option Val → Type 0 where
  it : {v : Val} → Of v a → f v ≡ true → k ≤ length (letters v) → length (letters v) < k + n
      → ((w : Val) → Of w a → k ≤ length (letters w) → f w ≡ true → NotAfter (letters v) (letters w)) → FoundFrom f a k n (some v)
  not_it : ((w : Val) → Of w a → k ≤ length (letters w) → length (letters w) < k + n → f w ≡ true → ⊥) → FoundFrom f a k n none

search_from : (f : Val → Bool) (a : Ty) (n k : ℕ) → FoundFrom f a k n (first_of (λ m. find f (values_with m a)) (count_up n k))
search_from f a zero k = not_it (λ w o l h p. absurd (omega arith))
search_from f a (suc n) k = go (find f (values_with k a)) (search_one k a f) (search_from f a n (suc k))
  where
    rest_of : ((w : Val) → Of w a → length (letters w) ≡ k → f w ≡ true → ⊥) → (y : Option Val) → FoundFrom f a (suc k) n y → FoundFrom f a k (suc n) y
    rest_of h (some v) (it o p l m least) = it o p (omega arith) (omega arith) (λ w q j t. at w q t (eq-or-lt_of_le j))
      where
        at : (w : Val) → Of w a → f w ≡ true → (k ≡ length (letters w)) ⊎ (k < length (letters w)) → NotAfter (letters v) (letters w)
        at w q t (inl e) = absurd (h w q (sym e) t)
        at w q t (inr j) = least w q j t
    rest_of h none (not_it none_there) = not_it (λ w q j i t. at w q t i (eq-or-lt_of_le j))
      where
        at : (w : Val) → Of w a → f w ≡ true → length (letters w) < k + suc n → (k ≡ length (letters w)) ⊎ (k < length (letters w)) → ⊥
        at w q t i (inl e) = h w q (sym e) t
        at w q t i (inr j) = none_there w q j (omega arith) t

    go : (x : Option Val) → FoundOne f k a x → FoundFrom f a (suc k) n (first_of (λ m. find f (values_with m a)) (count_up n (suc k)))
        → FoundFrom f a k (suc n) (or_else x (first_of (λ m. find f (values_with m a)) (count_up n (suc k))))
    go (some v) (one o l p least) others = it o p (omega arith) (omega arith) (λ w q j t. at w q t (eq-or-lt_of_le j))
      where
        at : (w : Val) → Of w a → f w ≡ true → (k ≡ length (letters w)) ⊎ (k < length (letters w)) → NotAfter (letters v) (letters w)
        at w q t (inl e) = earlier (least w q (sym e) t)
        at w q t (inr j) = let m : length (letters v) < length (letters w) = omega arith in fewer m
    go none (not_one h) others = rest_of h (first_of (λ m. find f (values_with m a)) (count_up n (suc k))) others

-- ---- the law

abbrev Passing : (Val → Bool) → Val → Type 0
Passing f v = f v ≡ true

-- there is at most one least value
pub least_unique : (a : Ty) (F : Val → Type 0) (v w : Val) → Least a F v → Least a F w → v ≡ w
least_unique a F v w l k =
    letters_injective v w
    (not_after_antisym
    (sooner_not_after (letters v) (letters w) (l.first w k.of k.shows))
    (sooner_not_after (letters w) (letters v) (k.first v l.of l.shows)))

-- what the definition gives is the least value, and has at most 127 letters
pub setting_least : (a : Ty) (f : Val → Bool) (v : Val) → setting a f ≡ some v → Least a (λ w. f w ≡ true) v × (length (letters v) ≤ result_length)
unfolding setting
setting_least a f v e = go (first_of (λ m. find f (values_with m a)) (count_up (suc result_length) 0)) e (search_from f a (suc result_length) 0)
  where
    go : (x : Option Val) → x ≡ some v → FoundFrom f a 0 (suc result_length) x → Least a (λ w. f w ≡ true) v × (length (letters v) ≤ result_length)
    go (some u) h (it o p l m least) =
        subst (λ u. Least a (λ w. f w ≡ true) u × (length (letters u) ≤ result_length)) (some_inj h)
        (record { of = o; shows = p; first = λ w q t. not_after_sooner (least w q (omega arith) t) }, omega arith)
    go none h k = absurd (none≢some h)

-- where it gives nothing, no value of at most 127 letters passes
pub setting_none : (a : Ty) (f : Val → Bool) → setting a f ≡ none → (w : Val) → Of w a → length (letters w) ≤ result_length → f w ≡ true → ⊥
unfolding setting
setting_none a f e = go (first_of (λ m. find f (values_with m a)) (count_up (suc result_length) 0)) e (search_from f a (suc result_length) 0)
  where
    go : (x : Option Val) → x ≡ none → FoundFrom f a 0 (suc result_length) x → (w : Val) → Of w a → length (letters w) ≤ result_length → f w ≡ true → ⊥
    go (some u) h k = absurd (none≢some (sym h))
    go none h (not_it none_there) = λ w o l p. none_there w o (omega arith) (omega arith) p

-- so a least value of at most 127 letters is what the definition gives
pub least_setting : (a : Ty) (f : Val → Bool) (v : Val) → Least a (λ w. f w ≡ true) v → length (letters v) ≤ result_length → setting a f ≡ some v
least_setting a f v l h = go (setting a f) refl
  where
    go : (x : Option Val) → setting a f ≡ x → x ≡ some v
    go none e = absurd (setting_none a f e v l.of h l.shows)
    go (some u) e = ap some (least_unique a (λ w. f w ≡ true) u v (setting_least a f u e).0 l)
