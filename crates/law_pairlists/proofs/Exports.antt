-- Request 07: the list of an exported iso pairs all settings of its two types, and importing it gives an iso that answers as the exported one.
use Prim.Native.Nat.{ℕ, zero, suc, ◌+◌, ◌≤◌, ◌<◌}
use native.Mathlib.Nat.{not-suc-le-zero, le_antisymm, lt_irrefl, add-zero, add-suc, suc-add, zero-add}
use native.Mathlib.Omega.{arith}
use mathlib.Core.Path.{◌≡◌, refl, sym, ap, ◌∙◌, subst}
use mathlib.Core.Bool.{Bool, true, false, not, cond, true≢false}
use mathlib.Core.Option.{Option, none, some}
use mathlib.Core.List.{List, [], ◌∷◌, map, Memᴰ}
use lib.Dec.{leb, ltb}
use lib.ListN.{length, get_elem?}
use Rattle.limits.specs.Limits.{max_pairs, export_length}
use Rattle.calculus.specs.Tools.{◌>>=◌, guard}
use Rattle.calculus.specs.Trees.{Ty, Val, Iso, invert}
use Rattle.calculus.specs.Refusals.{too_many}
use Rattle.format.specs.Lines.{Row, lines}
use Rattle.format.specs.Unfold.{isos_of}
use Rattle.calculus.specs.Reduction.{Counted, reduce}
use Rattle.calculus.specs.Lists.{is_free, Finite}
use Rattle.calculus.specs.Clauses.{lefts, rights}
use Rattle.law_ranking.specs.Numbering.{count, rank, unrank}
use Rattle.model.specs.Services.{accepted, verdict, gives, fails}
use Rattle.calculus.specs.Paper.{Of, Apart, Reaches, Distinct, nobody, another}
use Rattle.law_pairlists.specs.PairLists.{pair_lines, tos_of, too_many_pairs, to_from, upwards, on_pairs, on_exported, export_rows}
use Rattle.calculus.proofs.Basic.{bind_some, none≢some, some_inj, counted, neither, ltb_false, index_below, mem_index, index_map}
use Rattle.calculus.proofs.Letters.{inhabits_of, of_inhabits}
use Rattle.calculus.proofs.Inverse.{reduce_inverse}
use Rattle.model.proofs.Runs.{Good, preserves, sides, GoodRows, good, accepted_good}
use Rattle.model.proofs.Sizes.{free_rows, free_ends}
use Rattle.format.proofs.Turning.{isos_turn}
use Rattle.model.proofs.Outcomes.{fails≢gives, gives_inj}
use Rattle.law_ranking.proofs.Numbering.{rank_below, unrank_rank, unrank_inhabits, rank_unrank}
use Rattle.law_pairlists.proofs.Iso.{rank_inj}
use Rattle.law_pairlists.proofs.List.{Taken, distinct_few, printed_tos, pairs_room}
use Rattle.law_pairlists.proofs.Imports.{Imported, Trades, traded_run}

-- ---- an export that is not refused

pub record Exported (rs : List Row) (i budget : ℕ) (list : List ℕ) : Type 0 where
  pub iso : Iso
  pub there : get_elem? (isos_of rs) i ≡ some iso
  pub free : is_free (isos_of rs) i ≡ true
  pub few : count iso.from ≤ max_pairs
  pub tos : List ℕ
  pub all : upwards (to_from (isos_of rs) i iso budget) 0 (count iso.from) ≡ some tos
  pub bytes : list ≡ pair_lines 0 tos

not_false : (b : Bool) → not b ≡ false → b ≡ true
not_false true e = refl
not_false false e = absurd (true≢false e)

module _ (rs : List Row) (i budget : ℕ) (list : List ℕ) where
  on_all : (o : Iso) → get_elem? (isos_of rs) i ≡ some o → is_free (isos_of rs) i ≡ true → count o.from ≤ max_pairs
      → (x : Option (List ℕ)) → upwards (to_from (isos_of rs) i o budget) 0 (count o.from) ≡ x → on_pairs x ≡ gives list → Exported rs i budget list
  on_all o p f l none q e = absurd (fails≢gives e)
  on_all o p f l (some ts) q e = record { iso = o; there = p; free = f; few = l; tos = ts; all = q; bytes = sym (gives_inj e) }

  on_few : (o : Iso) → get_elem? (isos_of rs) i ≡ some o → (c : Bool) → too_many_pairs (isos_of rs) i o ≡ c
      → cond c (fails too_many) (on_pairs (upwards (to_from (isos_of rs) i o budget) 0 (count o.from))) ≡ gives list → Exported rs i budget list
  on_few o p true q e = absurd (fails≢gives e)
  on_few o p false q e =
      let h = neither (not (is_free (isos_of rs) i)) (ltb max_pairs (count o.from)) q in
      on_all o p (not_false (is_free (isos_of rs) i) h.0) (ltb_false max_pairs (count o.from) h.1) (upwards (to_from (isos_of rs) i o budget) 0 (count o.from)) refl e

  on_iso : (x : Option Iso) → get_elem? (isos_of rs) i ≡ x → on_exported (isos_of rs) i budget x ≡ gives list → Exported rs i budget list
  on_iso none p e = absurd (fails≢gives e)
  on_iso (some o) p e = on_few o p (too_many_pairs (isos_of rs) i o) refl e

  pub exported : export_rows rs i budget ≡ gives list → Exported rs i budget list
  unfolding export_rows
  exported = on_iso (get_elem? (isos_of rs) i) refl

-- ---- its tos

pub upwards_at : (f : ℕ → Option ℕ) (k n : ℕ) (ts : List ℕ) → upwards f k n ≡ some ts → (length ts ≡ n) × ((j t : ℕ) → get_elem? ts j ≡ some t → f (k + j) ≡ some t)
upwards_at f k zero ts e = (ap length (sym (some_inj e)), λ j t g. absurd (none≢some (ap (λ us. get_elem? us j) (some_inj e) ∙ g)))
upwards_at f k (suc n) ts e =
    let p = bind_some (f k) (λ t. upwards f (suc k) n >>= λ us. some (t ∷ us)) e in
    let q = bind_some (upwards f (suc k) n) (λ us. some (p.0 ∷ us)) p.2 in
    let s = some_inj q.2 in
    let h = upwards_at f (suc k) n q.0 q.1 in
    (ap length (sym s) ∙ ap suc h.0, λ j t g. at p.0 q.0 p.1 h.1 j t (ap (λ us. get_elem? us j) s ∙ g))
  where
    at : (u : ℕ) (us : List ℕ) → f k ≡ some u → ((j t : ℕ) → get_elem? us j ≡ some t → f (suc k + j) ≡ some t) → (j t : ℕ) → get_elem? (u ∷ us) j ≡ some t
        → f (k + j) ≡ some t
    at u us p h zero t g = ap f (add-zero k) ∙ p ∙ g
    at u us p h (suc j) t g = ap f (add-suc k j ∙ sym (suc-add k j)) ∙ h j t g

-- what a to says
pub record Sends (os : List Iso) (i : ℕ) (a b : Ty) (k t : ℕ) : Type 0 where
  pub value : Val
  pub count : ℕ
  pub reduces : reduce os i (unrank a k) ≡ (some value, count)
  pub ranks : rank value b ≡ t

pub to_sends : (os : List Iso) (i : ℕ) (o : Iso) (budget k t : ℕ) → to_from os i o budget k ≡ some t → Sends os i o.from o.to k t
to_sends os i o budget k t e =
    let r : Counted Val = reduce os i (unrank o.from k) in
    let p = bind_some r.0 (λ w. guard (leb r.1 budget) >>= λ _. some (rank w o.to)) e in
    let q = bind_some (guard (leb r.1 budget)) (λ _. some (rank p.0 o.to)) p.2 in
    record { value = p.0; count = r.1; reduces = counted p.1 refl; ranks = some_inj q.2 }

pub there_is : (ts : List ℕ) (k : ℕ) → k < length ts → (t : ℕ) × (get_elem? ts k ≡ some t)
there_is [] k h = absurd (not-suc-le-zero h)
there_is (t ∷ ts) zero h = (t, refl)
there_is (t ∷ ts) (suc k) h = there_is ts k (omega arith)

suc_inj : {m n : ℕ} → suc m ≡ suc n → m ≡ n
suc_inj e = omega arith

zero_suc : {n : ℕ} → 0 ≡ suc n → ⊥
zero_suc e = lt_irrefl 0 (omega arith)

-- numbers of which each stands at one place
distinct_places : (ts : List ℕ) → ((j k t : ℕ) → get_elem? ts j ≡ some t → get_elem? ts k ≡ some t → j ≡ k) → Distinct ts
distinct_places [] h = nobody
distinct_places (t ∷ ts) h =
    another (λ m. new m)
    (distinct_places ts (λ j k u p q. suc_inj (h (suc j) (suc k) u p q)))
  where
    new : Memᴰ t ts → ⊥
    new m = let p = mem_index m in zero_suc (h 0 (suc p.0) t refl p.1)

-- a list of what n numbers are sent to
chosen : (R : ℕ → ℕ → Type 0) (k n : ℕ) → ((l : ℕ) → l < k + n → (t : ℕ) × R l t)
    → (ts : List ℕ) × (length ts ≡ n) × ((j t : ℕ) → get_elem? ts j ≡ some t → R (k + j) t)
chosen R k zero h = ([], refl, λ j t e. absurd (none≢some e))
chosen R k (suc n) h =
    let p = h k (omega arith) in
    let r = chosen R (suc k) n (λ l q. h l (omega arith)) in
    (p.0 ∷ r.0, ap suc r.1, at p.0 r.0 p.1 r.2)
  where
    at : (u : ℕ) (us : List ℕ) → R k u → ((j t : ℕ) → get_elem? us j ≡ some t → R (suc k + j) t) → (j t : ℕ) → get_elem? (u ∷ us) j ≡ some t → R (k + j) t
    at u us p h zero t g = subst (λ m. R m t) (sym (add-zero k)) (subst (R k) (some_inj g) p)
    at u us p h (suc j) t g = subst (λ m. R m t) (suc-add k j ∙ sym (add-suc k j)) (h j t g)

module _ (rs : List Row) (gr : GoodRows rs) (i : ℕ) (o : Iso) (e : get_elem? (isos_of rs) i ≡ some o) (free : is_free (isos_of rs) i ≡ true) where
  abbrev os : List Iso
  os = isos_of rs

  g : Good os
  g = good rs gr

  both_sides : (p : Iso) → Memᴰ p os → Apart (lefts p) × Apart (rights p)
  both_sides = sides os g.ok

  finite : Finite o.from × Finite o.to
  finite = free_rows rs gr i o e free i o (Reaches.itself refl) e

  setting : (a : Ty) (k : ℕ) → k < count a → Of (unrank a k) a
  setting a k h = inhabits_of (unrank a k) a (unrank_inhabits a k h)

  number_inj : (a : Ty) → Finite a → (j k : ℕ) → j < count a → k < count a → unrank a j ≡ unrank a k → j ≡ k
  number_inj a f j k p q h = sym (rank_unrank a f j p) ∙ ap (λ v. rank v a) h ∙ rank_unrank a f k q

  sends_below : (k t : ℕ) → k < count o.from → Sends os i o.from o.to k t → t < count o.to
  sends_below k t h s =
      let w = preserves os g i o e (unrank o.from k) s.value s.count (setting o.from k h) s.reduces in
      subst (λ n. n < count o.to) s.ranks (rank_below s.value o.to (of_inhabits w))

  sends_once : (j k t : ℕ) → j < count o.from → k < count o.from → Sends os i o.from o.to j t → Sends os i o.from o.to k t → j ≡ k
  sends_once j k t p q s r =
      let v = preserves os g i o e (unrank o.from j) s.value s.count (setting o.from j p) s.reduces in
      let w = preserves os g i o e (unrank o.from k) r.value r.count (setting o.from k q) r.reduces in
      let same : s.value ≡ r.value = rank_inj finite.1 v w (s.ranks ∙ sym r.ranks) in
      let x = (reduce_inverse os both_sides i (unrank o.from j) s.value s.count).0 s.reduces in
      let y = (reduce_inverse os both_sides i (unrank o.from k) r.value r.count).0 r.reduces in
      number_inj o.from finite.0 j k p q (some_inj (ap (λ z. z.0) (sym x ∙ ap (reduce (map invert os) i) same ∙ y)))

  -- the way back of the turned rows ends
  back_ends : (w : Val) → Of w o.to → (v : Val) × (k : ℕ) × (reduce (map invert os) i w ≡ (some v, k)) × Of v o.from
  back_ends w h =
      let turned = isos_turn rs gr.passes in
      let (v, k, r, t) = free_ends true rs gr i (invert o) (ap (λ (q : List Iso). get_elem? q i) turned ∙ index_map invert os i e) free w h in
      (v, k, ap (λ (q : List Iso). reduce q i w) (sym turned) ∙ r, t)

  -- back: each number of the to-type is reached
  comes : (t : ℕ) → t < count o.to → (k : ℕ) × (k < count o.from) × Sends os i o.from o.to k t
  comes t h =
      let r = back_ends (unrank o.to t) (setting o.to t h) in
      let x = (reduce_inverse os both_sides i r.0 (unrank o.to t) r.1).1 r.2 in
      let n = of_inhabits r.3 in (
        rank r.0 o.from,
        rank_below r.0 o.from n,
        record {
          value = unrank o.to t;
          count = r.1;
          reduces = ap (reduce os i) (unrank_rank r.0 o.from finite.0 n) ∙ x;
          ranks = rank_unrank o.to finite.1 t h;
        },
      )

  sends_one : (k t u : ℕ) → Sends os i o.from o.to k t → Sends os i o.from o.to k u → t ≡ u
  sends_one k t u s r = sym s.ranks ∙ ap (λ z. rank z o.to) (some_inj (ap (λ z. z.0) (sym s.reduces ∙ r.reduces))) ∙ r.ranks

  -- as many values there as here
  pub counts_back : count o.to ≤ count o.from
  counts_back =
      let c = chosen (λ t k. (k < count o.from) × Sends os i o.from o.to k t × (t < count o.to)) 0 (count o.to)
      (λ l h. let z : l < count o.to = omega arith in let r = comes l z in (r.0, (r.1, r.2, z))) in
      let d = distinct_places c.0 (λ j k t p q. let s = c.2 j t p in let r = c.2 k t q in let w = sends_one t (0 + j) (0 + k) s.1 r.1 in omega arith) in
      let f = distinct_few (count o.from) c.0 d (λ t m. let p = mem_index m in (c.2 p.0 t p.1).0) in
      let l = c.1 in
      omega arith

  -- the tos of an export are all numbers of the to-type, each once
  pub tos_taken : (budget : ℕ) (ts : List ℕ) → upwards (to_from os i o budget) 0 (count o.from) ≡ some ts → Taken o.from o.to ts
  tos_taken budget ts h =
      let u = upwards_at (to_from os i o budget) 0 (count o.from) ts h in
      let n = u.0 in
      record { finite_from = finite.0; finite_to = finite.1; froms = u.0; tos = le_antisymm (omega (arith, few)) (omega (arith, counts_back)); below = below; once = once }
    where
      u : (length ts ≡ count o.from) × ((j t : ℕ) → get_elem? ts j ≡ some t → to_from os i o budget (0 + j) ≡ some t)
      u = upwards_at (to_from os i o budget) 0 (count o.from) ts h

      sends : (j t : ℕ) → get_elem? ts j ≡ some t → (j < count o.from) × Sends os i o.from o.to j t
      sends j t p =
          let q = index_below ts j p in
          let n = u.0 in
          (omega arith, subst (λ m. Sends os i o.from o.to m t) (zero-add j) (to_sends os i o budget (0 + j) t (u.1 j t p)))

      below : (t : ℕ) → Memᴰ t ts → t < count o.to
      below t m = let p = mem_index m in let s = sends p.0 t p.1 in sends_below p.0 t s.0 s.1

      once : Distinct ts
      once = distinct_places ts (λ j k t p q. let s = sends j t p in let r = sends k t q in sends_once j k t s.0 r.0 s.1 r.1)

      few : length ts ≤ count o.to
      few = distinct_few (count o.to) ts once below

pub export_taken : (file : List ℕ) (rs : List Row) → verdict file ≡ accepted rs → (i budget : ℕ) (list : List ℕ) (x : Exported rs i budget list)
    → Taken x.iso.from x.iso.to x.tos
export_taken file rs e i budget list x =
    let r = accepted_good file rs e in
    tos_taken rs r i x.iso x.there x.free budget x.tos x.all

-- "into an area of 40,960 bytes"
pub export_room : (file : List ℕ) (rs : List Row) → verdict file ≡ accepted rs → (i budget : ℕ) (list : List ℕ) → Exported rs i budget list → length list ≤ export_length
export_room file rs e i budget list x =
    let t = export_taken file rs e i budget list x in
    let f = t.froms in
    let s = t.tos in
    let l = x.few in
    let p = ap length x.bytes in
    let q = pairs_room 0 x.tos (omega arith) (λ n m. let k = t.below n m in omega arith) in
    omega arith

-- an exported list reads back
pub export_reads : (file : List ℕ) (rs : List Row) → verdict file ≡ accepted rs → (i budget : ℕ) (list : List ℕ) (x : Exported rs i budget list)
    → tos_of 0 (lines list) ≡ some x.tos
export_reads file rs e i budget list x =
    let t = export_taken file rs e i budget list x in
    let f = t.froms in
    let s = t.tos in
    let l = x.few in
    ap (λ z. tos_of 0 (lines z)) x.bytes ∙ printed_tos 0 x.tos (omega arith) (λ n m. let k = t.below n m in omega arith)

-- Importing an export between the iso's types gives an iso that answers as the exported one, each run in one application.
pub export_import : (file : List ℕ) (rs : List Row) → verdict file ≡ accepted rs → (i budget : ℕ) (list : List ℕ) (x : Exported rs i budget list)
    → (a b : ℕ) (out : List ℕ) (m : Imported rs a b list out) → m.from ≡ x.iso.from → m.to ≡ x.iso.to
    → (t : Trades m.from m.to m.tos out) → (v w : Val) (c : ℕ) → Of v x.iso.from
    → reduce (isos_of rs) i v ≡ (some w, c) → reduce (isos_of t.rows) 0 v ≡ (some w, 1)
export_import file rs e i budget list x a b out m p q t v w c h r =
    ap (reduce (isos_of t.rows) 0) (sym back)
    ∙ traded_run m.from m.to m.tos out m.taken t (rank v m.from) (rank w m.to) at
    ∙ ap (λ (z : Val). (some z, 1)) (unrank_rank w m.to m.taken.finite_to (of_inhabits (subst (Of w) (sym q) to)))
  where
    same : x.tos ≡ m.tos
    same = some_inj (sym (export_reads file rs e i budget list x) ∙ m.reads)

    to : Of w x.iso.to
    to = preserves (isos_of rs) (good rs (accepted_good file rs e)) i x.iso x.there v w c h r

    back : unrank m.from (rank v m.from) ≡ v
    back = unrank_rank v m.from m.taken.finite_from (of_inhabits (subst (Of v) (sym p) h))

    -- the to of v's line is w's number
    at : get_elem? m.tos (rank v m.from) ≡ some (rank w m.to)
    at =
        let n = rank_below v m.from (of_inhabits (subst (Of v) (sym p) h)) in
        let f = m.taken.froms in
        let g = there_is m.tos (rank v m.from) (omega arith) in
        let os : List Iso = isos_of rs in
        let u = upwards_at (to_from os i x.iso budget) 0 (count x.iso.from) x.tos x.all in
        let s = to_sends os i x.iso budget (0 + rank v m.from) g.0 (u.1 (rank v m.from) g.0 (ap (λ z. get_elem? z (rank v m.from)) same ∙ g.1)) in
        let k : reduce os i (unrank x.iso.from (0 + rank v m.from)) ≡ (some w, c) =
        ap (λ z. reduce os i (unrank x.iso.from z)) (zero-add (rank v m.from))
        ∙ ap (reduce os i) (ap (λ z. unrank z (rank v m.from)) (sym p) ∙ back) ∙ r in
        let y : g.0 ≡ rank w m.to = sym s.ranks ∙ ap (λ z. rank z x.iso.to) (some_inj (ap (λ z. z.0) (sym s.reduces ∙ k))) ∙ ap (rank w) (sym q) in
        g.1 ∙ ap some y
