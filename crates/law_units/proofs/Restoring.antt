-- "playing the script last line first with directions exchanged, under the same budget, restores each type tree and number"
use Prim.Native.Nat.{ℕ, zero, suc, ◌<◌}
use native.Mathlib.Omega.{arith}
use mathlib.Core.Path.{◌≡◌, refl, sym, ap, ap₂, ◌∙◌, subst}
use mathlib.Core.Bool.{Bool, true, false, cond, not}
use mathlib.Core.Option.{Option, some}
use mathlib.Core.List.{List, [], ◌∷◌, ◌++◌, map, reverse-cons}
use lib.ListN.{length, get_or, get_elem?, set, get_or-map}
use lib.Seq.{set-set, set-get_or, get_or-set_same}
use Rattle.calculus.specs.Trees.{Iso, invert, same_type}
use Rattle.calculus.specs.Lists.{is_free}
use Rattle.format.specs.Lines.{Row}
use Rattle.format.specs.Judge.{start}
use Rattle.format.specs.Unfold.{isos_of, turn_rows}
use Rattle.model.specs.Services.{accepted, verdict, turned, gives, toward, run_on}
use Rattle.model.specs.Answers.{GoodRows}
use Rattle.calculus.proofs.Basic.{index_map, index_of_map, same_type_refl}
use Rattle.format.proofs.Passing.{Passes}
use Rattle.format.proofs.Turning.{isos_turn, turn_turn}
use Rattle.model.proofs.Files.{turned_accepted}
use Rattle.model.proofs.Runs.{run_accepted, there_and_back, accepted_good}
use Rattle.law_ranking.specs.Numbering.{on_type, to_number, to_setting, number_rows, setting_rows}
use Rattle.law_ranking.proofs.Outcomes.{number_setting, setting_number}
use Rattle.law_units.specs.Units.{Planned, Units, Visited, done, skipped, spent, matches, other_end, and_then, sent, came_to, visit_by, visit, visit_to, moved, units_after, outcomes}
use Rattle.law_units.specs.Backward.{opposite, backward, tree_at, Alike}
use Rattle.law_units.proofs.Ends.{end_type}
use Rattle.law_units.proofs.Playing.{VisitIs, skips, spends, does, AllHold, by_iso, unit_is, visit_keeps, moved_length}
use Rattle.law_units.proofs.Counts.{after_append, outcomes_append, AllDone, done_append}

map_set : {A B : Type 0} (f : A → B) (l : List A) (i : ℕ) (a : A) → map f (set l i a) ≡ set (map f l) i (f a)
map_set f [] i a = refl
map_set f (x ∷ l) zero a = refl
map_set f (x ∷ l) (suc i) a = ap (λ r. f x ∷ r) (map_set f l i a)

-- ---- one visit, back again

-- the iso the other way
record Facing (rs : List Row) (back : Bool) (i : ℕ) (o : Iso) : Type 0 where
  iso : Iso
  here : get_elem? (isos_of (toward (not back) rs)) i ≡ some iso
  from : iso.from ≡ o.to
  to : iso.to ≡ o.from

facing : (rs : List Row) → Passes start rs → (back : Bool) (i : ℕ) {o : Iso} → get_elem? (isos_of (toward back rs)) i ≡ some o → Facing rs back i o
facing rs d false i {o} e =
    record {
      iso = invert o;
      here = ap (λ os. get_elem? os i) (isos_turn rs d) ∙ index_map invert (isos_of rs) i e;
      from = refl;
      to = refl;
    }
facing rs d true i {o} e =
    let k = index_of_map invert (isos_of rs) i (subst (λ os. get_elem? os i ≡ some o) (isos_turn rs d) e) in
    record {
      iso = k.0;
      here = k.1;
      from = ap (λ (u : Iso). u.to) k.2;
      to = ap (λ (u : Iso). u.from) k.2;
    }

-- a run, there and back
run_returns : (file : List ℕ) (rs : List Row) → verdict file ≡ accepted rs → (i : ℕ) (back : Bool) (budget k : ℕ) (x y : List ℕ)
    → run_on i back budget x rs ≡ gives (k, y) → run_on i (not back) budget y rs ≡ gives (k, x)
run_returns file rs e i back budget k x y f =
    let t = (there_and_back file rs e i back budget k x y).0 (run_accepted file rs e i back budget x ∙ f) in
    let u = sym (run_accepted (turned file) (turn_rows rs) (turned_accepted file rs e) i back budget y) ∙ t in
    go back u
  where
    go : (b : Bool) → run_on i b budget y (turn_rows rs) ≡ gives (k, x) → run_on i (not b) budget y rs ≡ gives (k, x)
    go false v = v
    go true v = subst (λ q. run_on i false budget y q ≡ gives (k, x)) (turn_turn rs) v

module _ (file : List ℕ) (rs : List Row) (acc : verdict file ≡ accepted rs) (budget : ℕ) where
  g : GoodRows rs
  g = accepted_good file rs acc

  -- a visit sees of a T line only its tree
  visit_alike : (p : Planned) (i j n : ℕ) → tree_at rs i ≡ tree_at rs j → visit rs budget p i n ≡ visit rs budget p j n
  unfolding visit
  visit_alike p i j n e =
      ap
      (λ x. let o : Option Iso = get_elem? (isos_of (toward p.back rs)) p.iso in
      let z : ℕ = other_end rs p.back o in
      cond (matches x o) (came_to z (and_then (on_type x (to_setting n)) (λ ls. and_then (run_on p.iso p.back budget ls rs) (λ r. number_rows z r.1 rs)))) skipped)
      e

  -- the visit that undoes a visit
  undone : (p : Planned) {i n : ℕ} {o : Iso} → get_elem? (isos_of (toward p.back rs)) p.iso ≡ some o → {v : Visited} → VisitIs rs budget p i n o v
      → {j m : ℕ} → v ≡ done j m → (i₂ : ℕ) × (visit rs budget (opposite p) j m ≡ done i₂ n) × (tree_at rs i₂ ≡ tree_at rs i)
  unfolding visit
  undone p e (skips h d) q = absurd (not_done_skipped q)
    where
      not_done_skipped : {j m : ℕ} → skipped ≡ done j m → ⊥
      not_done_skipped e = subst (λ v. elim v as (λ _. Type 0) [ done j m ↦ ⊥ | skipped ↦ Unit {0} | spent ↦ Unit {0} ]) e tt
  undone p e (spends h ls s x y) q = absurd (not_done_spent q)
    where
      not_done_spent : {j m : ℕ} → spent ≡ done j m → ⊥
      not_done_spent e = subst (λ v. elim v as (λ _. Type 0) [ done j m ↦ ⊥ | skipped ↦ Unit {0} | spent ↦ Unit {0} ]) e tt
  undone p {i} {n} {o} e (does h ls us k m s x y z new t) {j} {m = m₂} q =
      let f = facing rs g.passes p.back p.iso e in
      let b : ℕ = other_end rs p.back (some o) in
      let a : ℕ = other_end rs (not p.back) (some f.iso) in
      let at_b : tree_at rs b ≡ some o.to = end_type rs g.passes p.back p.iso e in
      let at_a : tree_at rs a ≡ some o.from = end_type rs g.passes (not p.back) p.iso f.here ∙ ap some f.to in
      let at_i : tree_at rs i ≡ some o.from = h.line.there ∙ ap some s in
      let matched : matches (tree_at rs b) (some f.iso) ≡ true = ap (λ c. matches c (some f.iso)) at_b ∙ ap (same_type o.to) f.from ∙ same_type_refl o.to in
      let out : setting_rows b m rs ≡ gives us = number_setting (accepted rs) b us m z in
      let home : number_rows a ls rs ≡ gives n = ap (λ c. on_type c (to_number ls)) (at_a ∙ sym at_i) ∙ setting_number (accepted rs) i n ls x in
      let back : sent rs budget (opposite p) b m a ≡ gives n =
      ap (λ c. and_then c (λ l. and_then (run_on p.iso (not p.back) budget l rs) (λ r. number_rows a r.1 rs))) out
      ∙ ap (λ c. and_then c (λ r. number_rows a r.1 rs)) (run_returns file rs acc p.iso p.back budget k ls us y)
      ∙ home in
      let v : visit rs budget (opposite p) b m ≡ done a n =
      ap (visit_by rs budget (opposite p) b m) f.here
      ∙ ap (λ c. cond c (came_to a (sent rs budget (opposite p) b m a)) skipped) matched
      ∙ ap (came_to a) back in
      (a, ap₂ (visit rs budget (opposite p)) (sym (line_of q)) (sym (number_of q)) ∙ v, at_a ∙ sym at_i)
    where
      line_in : Visited → ℕ
      line_in (done x y) = x
      line_in skipped = 0
      line_in spent = 0

      number_in : Visited → ℕ
      number_in (done x y) = y
      number_in skipped = 0
      number_in spent = 0

      line_of : {c d c₂ d₂ : ℕ} → done c d ≡ done c₂ d₂ → c ≡ c₂
      line_of e = ap line_in e

      number_of : {c d c₂ d₂ : ℕ} → done c d ≡ done c₂ d₂ → d ≡ d₂
      number_of e = ap number_in e

  -- ---- all visits

  -- units that are alike, with one of them set
  set_alike : (us vs : Units) → Alike rs us vs → (u j j₂ m : ℕ) → tree_at rs j ≡ tree_at rs j₂
      → Alike rs (record { types = set us.types u j; settings = set us.settings u m }) (record { types = set vs.types u j₂; settings = set vs.settings u m })
  set_alike us vs a u j j₂ m e =
      record {
        trees = map_set (tree_at rs) us.types u j ∙ ap₂ (λ l x. set l u x) a.trees e ∙ sym (map_set (tree_at rs) vs.types u j₂);
        settings = ap (λ l. set l u m) a.settings;
      }

  -- a visit that is done, and undone on units that are alike
  module _ (us : Units) (a : AllHold rs us) (p : Planned) (here : p.unit < length us.types) (low : p.iso < length (isos_of rs))
      (free : is_free (isos_of rs) p.iso ≡ true) {j m : ℕ} (d : visit_to rs budget us p ≡ done j m) where
    abbrev i : ℕ
    i = get_or us.types p.unit 0

    abbrev n : ℕ
    n = get_or us.settings p.unit 0

    way : (i₂ : ℕ) × (visit rs budget (opposite p) j m ≡ done i₂ n) × (tree_at rs i₂ ≡ tree_at rs i)
    way = undone p (by_iso rs us a g budget p here low free).1 (unit_is rs us a g budget p here low free) d

    abbrev after : Units
    after = moved (visit_to rs budget us p) p.unit us

    after_is : after ≡ record { types = set us.types p.unit j; settings = set us.settings p.unit m }
    after_is = ap (λ v. moved v p.unit us) d

    module _ (vs : Units) (alike : Alike rs after vs) where
      at_type : tree_at rs (get_or vs.types p.unit 0) ≡ tree_at rs j
      at_type =
          sym (get_or-map (tree_at rs) vs.types p.unit 0) ∙ ap (λ l. get_or l p.unit (tree_at rs 0)) (sym alike.trees)
          ∙ get_or-map (tree_at rs) after.types p.unit 0 ∙ ap (λ (w : Units). tree_at rs (get_or w.types p.unit 0)) after_is
          ∙ ap (tree_at rs) (get_or-set_same us.types p.unit j 0 here)

      at_setting : get_or vs.settings p.unit 0 ≡ m
      at_setting =
          let long = a.long in
          ap (λ l. get_or l p.unit 0) (sym alike.settings) ∙ ap (λ (w : Units). get_or w.settings p.unit 0) after_is
          ∙ get_or-set_same us.settings p.unit m 0 (omega (arith, long))

      undoes : visit_to rs budget vs (opposite p) ≡ done way.0 n
      undoes =
          visit_alike (opposite p) (get_or vs.types p.unit 0) j (get_or vs.settings p.unit 0) at_type
          ∙ ap (visit rs budget (opposite p) j) at_setting ∙ way.1

      restored : Alike rs us (moved (visit_to rs budget vs (opposite p)) p.unit vs)
      restored =
          let w : Units = record { types = set after.types p.unit i; settings = set after.settings p.unit n } in
          let same : w ≡ us =
          ap (λ (z : Units). record { types = set z.types p.unit i; settings = set z.settings p.unit n }) after_is
          ∙ ap₂ (λ x y. record { types = x; settings = y }) (set-set us.types p.unit j i ∙ set-get_or us.types p.unit 0)
          (set-set us.settings p.unit m n ∙ set-get_or us.settings p.unit 0) in
          subst (λ z. Alike rs z (moved (visit_to rs budget vs (opposite p)) p.unit vs)) same
          (subst (Alike rs w) (sym (ap (λ v. moved v p.unit vs) undoes)) (set_alike after vs alike p.unit i way.0 n (sym way.2)))

  -- every visit of a script names a unit and an iso that has nothing to do with lists
  abbrev pub Named : ℕ → List Planned → Type 0
  Named units [] = Unit {0}
  Named units (p ∷ ps) = (p.unit < units) × (p.iso < length (isos_of rs)) × (is_free (isos_of rs) p.iso ≡ true) × Named units ps

  pub restores : (ps : List Planned) (us : Units) → AllHold rs us → Named (length us.types) ps → AllDone (outcomes rs budget ps us) → (vs : Units) → Alike rs (units_after rs budget ps us) vs
      → Alike rs us (units_after rs budget (backward ps) vs) × AllDone (outcomes rs budget (backward ps) vs)
  restores [] us a named dones vs alike = (alike, tt)
  restores (p ∷ ps) us a named dones vs alike =
      first (visit_to rs budget us p) refl dones
      (λ rest. restores ps (moved (visit_to rs budget us p) p.unit us) (visit_keeps rs us a g budget p named.0 named.1 named.2)
      (subst (λ k. Named k ps) (sym (moved_length (visit_to rs budget us p) p.unit us)) named.3) rest vs alike)
    where
      us₁ : Units
      us₁ = moved (visit_to rs budget us p) p.unit us

      last_one : backward (p ∷ ps) ≡ backward ps ++ (opposite p ∷ [])
      last_one = reverse-cons (opposite p) (map opposite ps)

      first : (v : Visited) → visit_to rs budget us p ≡ v → AllDone (v ∷ outcomes rs budget ps us₁)
          → (AllDone (outcomes rs budget ps us₁) → Alike rs us₁ (units_after rs budget (backward ps) vs) × AllDone (outcomes rs budget (backward ps) vs))
          → Alike rs us (units_after rs budget (backward (p ∷ ps)) vs) × AllDone (outcomes rs budget (backward (p ∷ ps)) vs)
      first (done j m) d rest ih =
          let h = ih rest in
          let vs₁ : Units = units_after rs budget (backward ps) vs in
          let undo = undoes us a p named.0 named.1 named.2 d vs₁ h.0 in (
            subst (Alike rs us) (sym (ap (λ qs. units_after rs budget qs vs) last_one ∙ after_append rs budget (backward ps) (opposite p ∷ []) vs))
                (restored us a p named.0 named.1 named.2 d vs₁ h.0),
            subst AllDone (sym (ap (λ qs. outcomes rs budget qs vs) last_one ∙ outcomes_append rs budget (backward ps) (opposite p ∷ []) vs))
                (done_append (outcomes rs budget (backward ps) vs) (visit_to rs budget vs₁ (opposite p) ∷ []) h.1 (subst (λ v. AllDone (v ∷ [])) (sym undo) tt)),
          )
      first skipped d rest ih = absurd rest
      first spent d rest ih = absurd rest
