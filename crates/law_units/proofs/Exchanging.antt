-- Two scripts that name different units may be exchanged: playing the lines of the one and then those of the other gives the same units and record either way round, and the same
-- answer, but that of a 22 and an 18 the first decides.
use Prim.Native.Nat.{ℕ, ◌≤◌}
use native.Mathlib.Omega.{arith}
use mathlib.Core.Path.{◌≡◌, refl, sym, ap, ap₂, ◌∙◌, subst}
use mathlib.Core.Logic.{◌⊎◌, inl, inr}
use mathlib.Core.Bool.{Bool, true, false, cond, ◌||◌}
use mathlib.Core.Option.{Option, none, some}
use mathlib.Core.List.Memᴰ
use mathlib.Core.List.{List, [], ◌∷◌, ◌++◌, Memᴰ}
use lib.Dec.{ltb, eqb}
use lib.ListN.{length, length-append}
use lib.Seq.{get_or-set_other, set_comm}
use Rattle.limits.specs.Limits.{line_feed, max_lines, max_units, table_length, work_length}
use Rattle.calculus.specs.Trees.{Iso}
use Rattle.calculus.specs.Refusals.{Refusal, too_long, too_many, bad_script}
use Rattle.calculus.specs.Lists.{is_free}
use Rattle.format.specs.Lines.{Row, lines, onto_first}
use Rattle.format.specs.Unfold.{isos_of}
use Rattle.format.specs.Code.{numbered}
use Rattle.model.specs.Services.{Verdict, accepted, refused, verdict, short, unless, go_on, Outcome, gives, fails, refusal_of, refusal_number, served}
use Rattle.calculus.proofs.Basic.{bool_cases}
use Rattle.model.proofs.Outcomes.{fails≢gives, gives_inj}
use Rattle.model.proofs.Sheets.{long_enough}
use Rattle.law_units.specs.Units.{Planned, planned_of, planned_for, and_then, on_line, line_on, script_of, Units, units_fault, Visited, done, skipped, spent, visit, visit_to, moved}
use Rattle.law_units.specs.Units.{units_after, outcomes, Tally, nothing_yet, with_visit, counted, Played, played, on_script, on_units, play_rows, unequal}
use Rattle.law_units.specs.Units.{play_verdict, units_from, tally_from, Play, play_by, play_service}
use Rattle.law_units.specs.Apart.{Apart, SameAnswer, Exchanged}
use Rattle.law_units.proofs.Playing.{script_first}
use Rattle.law_units.proofs.Counts.{after_append, outcomes_append}
use Rattle.law_units.proofs.Services.{nil≢cons}
use Rattle.law_units.proofs.Faulting.{fails_inj}

-- ---- lines of bytes behind bytes that end with a line feed

-- bytes have a line
has_line : (b : ℕ) (bs : List ℕ) → lines (b ∷ bs) ≡ [] → ⊥
has_line b bs = go (eqb b line_feed) (lines bs)
  where
    go : (c : Bool) (ls : List (List ℕ)) → cond c ((b ∷ []) ∷ ls) (onto_first b ls) ≡ [] → ⊥
    go true ls e = nil≢cons (sym e)
    go false [] e = nil≢cons (sym e)
    go false (l ∷ ls) e = nil≢cons (sym e)

some_line : (bs : List ℕ) → lines (bs ++ (line_feed ∷ [])) ≡ [] → ⊥
some_line [] = has_line line_feed []
some_line (b ∷ bs) = has_line b (bs ++ (line_feed ∷ []))

pub lines_behind : (bs cs : List ℕ) → lines ((bs ++ (line_feed ∷ [])) ++ cs) ≡ lines (bs ++ (line_feed ∷ [])) ++ lines cs
lines_behind [] cs = refl
lines_behind (b ∷ bs) cs = go (bool_cases (eqb b line_feed)) (lines_behind bs cs)
  where
    ds : List ℕ
    ds = bs ++ (line_feed ∷ [])

    onto : (ls ms : List (List ℕ)) → (ls ≡ [] → ⊥) → onto_first b (ls ++ ms) ≡ onto_first b ls ++ ms
    onto [] ms h = absurd (h refl)
    onto (l ∷ ls) ms h = refl

    go : (eqb b line_feed ≡ true) ⊎ (eqb b line_feed ≡ false) → lines (ds ++ cs) ≡ lines ds ++ lines cs → lines (b ∷ (ds ++ cs)) ≡ lines (b ∷ ds) ++ lines cs
    go (inl t) ih = rw t (ap (λ ls. (b ∷ []) ∷ ls) ih)
    go (inr t) ih = rw t (ap (onto_first b) ih ∙ onto (lines ds) (lines cs) (some_line bs))

-- ---- the record: two visits counted in either order

with_with : (v w : Visited) (t : Tally) → with_visit v (with_visit w t) ≡ with_visit w (with_visit v t)
with_with (done i n) (done j m) t = refl
with_with (done i n) skipped t = refl
with_with (done i n) spent t = refl
with_with skipped (done j m) t = refl
with_with skipped skipped t = refl
with_with skipped spent t = refl
with_with spent (done j m) t = refl
with_with spent skipped t = refl
with_with spent spent t = refl

counted_append : (vs ws : List Visited) (t : Tally) → counted (vs ++ ws) t ≡ counted ws (counted vs t)
counted_append [] ws t = refl
counted_append (v ∷ vs) ws t = counted_append vs ws (with_visit v t)

counted_with : (v : Visited) (vs : List Visited) (t : Tally) → counted vs (with_visit v t) ≡ with_visit v (counted vs t)
counted_with v [] t = refl
counted_with v (w ∷ vs) t = ap (counted vs) (with_with w v t) ∙ counted_with v vs (with_visit w t)

counted_swap : (vs ws : List Visited) (t : Tally) → counted ws (counted vs t) ≡ counted vs (counted ws t)
counted_swap [] ws t = refl
counted_swap (v ∷ vs) ws t = counted_swap vs ws (with_visit v t) ∙ ap (counted vs) (counted_with v ws t)

pub counted_either : (vs ws : List Visited) (t : Tally) → counted (vs ++ ws) t ≡ counted (ws ++ vs) t
counted_either vs ws t = counted_append vs ws t ∙ counted_swap vs ws t ∙ sym (counted_append ws vs t)

-- ---- visits to other units

-- none of some visits names unit u
abbrev pub Spares : ℕ → List Planned → Type 0
Spares u ps = (p : Planned) → Memᴰ p ps → u ≡ p.unit → ⊥

module _ (rs : List Row) (budget : ℕ) where
  -- a visit sees its own unit alone
  sees : (v : Visited) (u : ℕ) (us : Units) (p : Planned) → (u ≡ p.unit → ⊥) → visit_to rs budget (moved v u us) p ≡ visit_to rs budget us p
  sees (done j m) u us p h =
      ap₂ (visit rs budget p) (get_or-set_other us.types u p.unit j 0 (λ e. h (sym e))) (get_or-set_other us.settings u p.unit m 0 (λ e. h (sym e)))
  sees skipped u us p h = refl
  sees spent u us p h = refl

  -- and changes it alone
  moves : (v w : Visited) (u k : ℕ) (us : Units) → (u ≡ k → ⊥) → moved w k (moved v u us) ≡ moved v u (moved w k us)
  moves (done i n) (done j m) u k us h =
      ap₂ (λ x y. record { types = x; settings = y }) (set_comm us.types u k i j h) (set_comm us.settings u k n m h)
  moves (done i n) skipped u k us h = refl
  moves (done i n) spent u k us h = refl
  moves skipped w u k us h = refl
  moves spent w u k us h = refl

  -- what comes of one unit goes past visits to others
  past_units : (v : Visited) (u : ℕ) (ps : List Planned) (us : Units) → Spares u ps → units_after rs budget ps (moved v u us) ≡ moved v u (units_after rs budget ps us)
  past_units v u [] us h = refl
  past_units v u (p ∷ ps) us h =
      let k = h p (Memᴰ.head refl) in
      ap (λ w. units_after rs budget ps (moved w p.unit (moved v u us))) (sees v u us p k)
      ∙ ap (units_after rs budget ps) (moves v (visit_to rs budget us p) u p.unit us k)
      ∙ past_units v u ps (moved (visit_to rs budget us p) p.unit us) (λ q m. h q (Memᴰ.tail m))

  past_outcomes : (v : Visited) (u : ℕ) (ps : List Planned) (us : Units) → Spares u ps → outcomes rs budget ps (moved v u us) ≡ outcomes rs budget ps us
  past_outcomes v u [] us h = refl
  past_outcomes v u (p ∷ ps) us h =
      let k = h p (Memᴰ.head refl) in
      ap (λ w. w ∷ outcomes rs budget ps (moved w p.unit (moved v u us))) (sees v u us p k)
      ∙ ap (λ z. visit_to rs budget us p ∷ outcomes rs budget ps z) (moves v (visit_to rs budget us p) u p.unit us k)
      ∙ ap (λ z. visit_to rs budget us p ∷ z) (past_outcomes v u ps (moved (visit_to rs budget us p) p.unit us) (λ q m. h q (Memᴰ.tail m)))

  -- a visit after visits to other units
  sees_after : (p : Planned) (qs : List Planned) (us : Units) → Spares p.unit qs → visit_to rs budget (units_after rs budget qs us) p ≡ visit_to rs budget us p
  sees_after p [] us h = refl
  sees_after p (q ∷ qs) us h =
      sees_after p qs (moved (visit_to rs budget us q) q.unit us) (λ x m. h x (Memᴰ.tail m))
      ∙ sees (visit_to rs budget us q) q.unit us p (λ e. h q (Memᴰ.head refl) (sym e))

  -- no visit of the one names a unit of the other
  abbrev pub AllSpare : List Planned → List Planned → Type 0
  AllSpare ps qs = (p : Planned) → Memᴰ p ps → Spares p.unit qs

  units_swap : (ps qs : List Planned) (us : Units) → AllSpare ps qs → units_after rs budget qs (units_after rs budget ps us) ≡ units_after rs budget ps (units_after rs budget qs us)
  units_swap [] qs us h = refl
  units_swap (p ∷ ps) qs us h =
      let v : Visited = visit_to rs budget us p in
      let k = h p (Memᴰ.head refl) in
      units_swap ps qs (moved v p.unit us) (λ x m. h x (Memᴰ.tail m))
      ∙ ap (units_after rs budget ps) (past_units v p.unit qs us k)
      ∙ ap (λ w. units_after rs budget ps (moved w p.unit (units_after rs budget qs us))) (sym (sees_after p qs us k))

  outcomes_alone : (ps qs : List Planned) (us : Units) → AllSpare ps qs → outcomes rs budget ps (units_after rs budget qs us) ≡ outcomes rs budget ps us
  outcomes_alone [] qs us h = refl
  outcomes_alone (p ∷ ps) qs us h =
      let v : Visited = visit_to rs budget us p in
      let k = h p (Memᴰ.head refl) in
      ap (λ w. w ∷ outcomes rs budget ps (moved w p.unit (units_after rs budget qs us))) (sees_after p qs us k)
      ∙ ap (λ z. v ∷ outcomes rs budget ps z) (sym (past_units v p.unit qs us k))
      ∙ ap (λ z. v ∷ z) (outcomes_alone ps qs (moved v p.unit us) (λ x m. h x (Memᴰ.tail m)))

  spare_sym : (ps qs : List Planned) → AllSpare ps qs → AllSpare qs ps
  spare_sym ps qs h q m p k e = h p k q m (sym e)

-- ---- two scripts

module _ (units : ℕ) (os : List Iso) where
  script_append : (ls ms : List (List ℕ))
      → script_of units os (ls ++ ms) ≡ and_then (script_of units os ls) (λ ps. and_then (script_of units os ms) (λ qs. gives (ps ++ qs)))
  script_append [] ms = go (script_of units os ms)
    where
      go : (x : Outcome (List Planned)) → x ≡ and_then x (λ qs. gives qs)
      go (gives qs) = refl
      go (fails f) = refl
  script_append (l ∷ ls) ms = ap (λ y. and_then (line_on units os l) (λ p. and_then y (λ ps. gives (p ∷ ps)))) (script_append ls ms) ∙ go (line_on units os l) (script_of units os ls)
      (script_of units os ms)
    where
      go : (x : Outcome Planned) (y z : Outcome (List Planned))
          → and_then x (λ p. and_then (and_then y (λ ps. and_then z (λ qs. gives (ps ++ qs)))) (λ rs. gives (p ∷ rs)))
          ≡ and_then (and_then x (λ p. and_then y (λ ps. gives (p ∷ ps)))) (λ ps. and_then z (λ qs. gives (ps ++ qs)))
      go (fails f) y z = refl
      go (gives p) (fails f) z = refl
      go (gives p) (gives ps) (fails f) = refl
      go (gives p) (gives ps) (gives qs) = refl

  -- a visit of a script is that of one of its lines
  from_line : (ls : List (List ℕ)) (ps : List Planned) → script_of units os ls ≡ gives ps → (p : Planned) → Memᴰ p ps → (l : List ℕ) × Memᴰ l ls × (planned_of l ≡ some p)
  from_line [] ps e p m = absurd (Memᴰ.not-nil (subst (λ qs. Memᴰ p qs) (sym (gives_inj e)) m))
  from_line (l ∷ ls) ps e p m =
      let f = script_first units os l ls ps e in go f.0 f.1 f.3 (λ k. from_line ls f.1 f.6 p k) (subst (λ qs. Memᴰ p qs) f.2 m)
    where
      go : (q : Planned) (qs : List Planned) → planned_of l ≡ some q → (Memᴰ p qs → (n : List ℕ) × Memᴰ n ls × (planned_of n ≡ some p)) → Memᴰ p (q ∷ qs)
          → (n : List ℕ) × Memᴰ n (l ∷ ls) × (planned_of n ≡ some p)
      go q qs reads ih (Memᴰ.head e) = (l, Memᴰ.head refl, reads ∙ ap some (sym e))
      go q qs reads ih (Memᴰ.tail k) = let (n, at, says) = ih k in (n, Memᴰ.tail at, says)

  -- a script is refused 22 or 18
  abbrev Either : Refusal → Type 0
  Either f = (f ≡ bad_script) ⊎ (f ≡ too_many)

  line_either : (l : List ℕ) {f : Refusal} → line_on units os l ≡ fails f → Either f
  line_either l {f} = go (planned_for units (length os) l)
    where
      free : (p : Planned) (b : Bool) → cond b (gives p) (fails too_many) ≡ fails f → Either f
      free p true e = absurd (fails≢gives (sym e))
      free p false e = inr (sym (fails_inj e))

      go : (x : Option Planned) → on_line os x ≡ fails f → Either f
      go none e = inl (sym (fails_inj e))
      go (some p) e = free p (is_free os p.iso) e

  script_either : (ls : List (List ℕ)) {f : Refusal} → script_of units os ls ≡ fails f → Either f
  script_either [] e = absurd (fails≢gives (sym e))
  script_either (l ∷ ls) {f} e = go (line_on units os l) (script_of units os ls) (λ g q. line_either l q) (λ g q. script_either ls q) e
    where
      go : (x : Outcome Planned) (y : Outcome (List Planned)) → ((g : Refusal) → x ≡ fails g → Either g) → ((g : Refusal) → y ≡ fails g → Either g)
          → and_then x (λ p. and_then y (λ ps. gives (p ∷ ps))) ≡ fails f → Either f
      go (fails g) y h k e = subst Either (fails_inj e) (h g refl)
      go (gives p) (fails g) h k e = subst Either (fails_inj e) (k g refl)
      go (gives p) (gives ps) h k e = absurd (fails≢gives (sym e))

-- what two outcomes tell of the same units
data Swapped (us : Units) (x y : Outcome Played) : Type 0 where
  alike : refusal_of x ≡ refusal_of y → units_from x us ≡ units_from y us → ((t : Tally) → tally_from x t ≡ tally_from y t) → Swapped us x y
  bad : x ≡ fails bad_script → y ≡ fails too_many → Swapped us x y
  lists : x ≡ fails too_many → y ≡ fails bad_script → Swapped us x y

module _ (us : Units) (budget : ℕ) (rs : List Row) (a b ab ba : List ℕ) (first : lines ab ≡ lines a ++ lines b) (second : lines ba ≡ lines b ++ lines a) (apart : Apart a b) where
  abbrev read_of : List (List ℕ) → Outcome (List Planned)
  read_of ls = script_of (length us.types) (isos_of rs) ls

  spared : (ps qs : List Planned) → read_of (lines a) ≡ gives ps → read_of (lines b) ≡ gives qs → AllSpare rs budget ps qs
  spared ps qs e f p m q k same =
      let (l, at, reads) = from_line (length us.types) (isos_of rs) (lines a) ps e p m in
      let (n, there, says) = from_line (length us.types) (isos_of rs) (lines b) qs f q k in
      apart.units l n at there p q reads says same

  played_either : (ps qs : List Planned) → AllSpare rs budget ps qs → Swapped us (gives (played rs budget us (ps ++ qs))) (gives (played rs budget us (qs ++ ps)))
  played_either ps qs h =
      let h₂ = spare_sym rs budget ps qs h in
      let u : units_after rs budget (ps ++ qs) us ≡ units_after rs budget (qs ++ ps) us =
      after_append rs budget ps qs us ∙ units_swap rs budget ps qs us h ∙ sym (after_append rs budget qs ps us) in
      let o₁ : outcomes rs budget (ps ++ qs) us ≡ outcomes rs budget ps us ++ outcomes rs budget qs us =
      outcomes_append rs budget ps qs us ∙ ap (λ vs. outcomes rs budget ps us ++ vs) (outcomes_alone rs budget qs ps us h₂) in
      let o₂ : outcomes rs budget (qs ++ ps) us ≡ outcomes rs budget qs us ++ outcomes rs budget ps us =
      outcomes_append rs budget qs ps us ∙ ap (λ vs. outcomes rs budget qs us ++ vs) (outcomes_alone rs budget ps qs us h) in
      let c : counted (outcomes rs budget (ps ++ qs) us) nothing_yet ≡ counted (outcomes rs budget (qs ++ ps) us) nothing_yet =
      ap (λ vs. counted vs nothing_yet) o₁ ∙ counted_either (outcomes rs budget ps us) (outcomes rs budget qs us) nothing_yet ∙ ap (λ vs. counted vs nothing_yet) (sym o₂) in
      alike refl u (λ t. c)

  -- both refused: by the same number, or the first decides
  refused_either : {f g : Refusal} → (f ≡ bad_script) ⊎ (f ≡ too_many) → (g ≡ bad_script) ⊎ (g ≡ too_many) → Swapped us (fails f) (fails g)
  refused_either (inl e) (inl k) = alike (ap some (e ∙ sym k)) refl (λ t. refl)
  refused_either (inl e) (inr k) = bad (ap fails e) (ap fails k)
  refused_either (inr e) (inl k) = lists (ap fails e) (ap fails k)
  refused_either (inr e) (inr k) = alike (ap some (e ∙ sym k)) refl (λ t. refl)

  scripts_either : Swapped us (on_script rs budget us (read_of (lines ab))) (on_script rs budget us (read_of (lines ba)))
  scripts_either =
      subst (λ x. Swapped us (on_script rs budget us x) (on_script rs budget us (read_of (lines ba))))
      (sym (ap read_of first ∙ script_append (length us.types) (isos_of rs) (lines a) (lines b)))
      (subst (λ x. Swapped us (on_script rs budget us (and_then (read_of (lines a)) (λ ps. and_then (read_of (lines b)) (λ qs. gives (ps ++ qs))))) (on_script rs budget us x))
      (sym (ap read_of second ∙ script_append (length us.types) (isos_of rs) (lines b) (lines a)))
      (go (read_of (lines a)) (read_of (lines b)) refl refl))
    where
      go : (x y : Outcome (List Planned)) → read_of (lines a) ≡ x → read_of (lines b) ≡ y
          → Swapped us (on_script rs budget us (and_then x (λ ps. and_then y (λ qs. gives (ps ++ qs))))) (on_script rs budget us (and_then y (λ ps. and_then x (λ qs. gives (ps ++ qs)))))
      go (fails f) (fails g) e k =
          refused_either (script_either (length us.types) (isos_of rs) (lines a) e) (script_either (length us.types) (isos_of rs) (lines b) k)
      go (fails f) (gives qs) e k = alike refl refl (λ t. refl)
      go (gives ps) (fails f) e k = alike refl refl (λ t. refl)
      go (gives ps) (gives qs) e k = played_either ps qs (spared ps qs e k)

  rows_either : Swapped us (play_rows us ab budget rs) (play_rows us ba budget rs)
  unfolding play_rows
  rows_either = go (units_fault rs us.types us.settings)
    where
      go : (x : Option Refusal) → Swapped us (on_units rs budget us (lines ab) x) (on_units rs budget us (lines ba) x)
      go none = scripts_either
      go (some f) = alike refl refl (λ t. refl)

-- ---- the service

module _ (us : Units) (budget : ℕ) (a b ab ba : List ℕ) (first : lines ab ≡ lines a ++ lines b) (second : lines ba ≡ lines b ++ lines a) (apart : Apart a b) where
  same_many : length (lines ab) ≡ length (lines ba)
  same_many =
      let n = length-append (lines a) (lines b) in
      let m = length-append (lines b) (lines a) in
      let p = ap length first in
      let q = ap length second in
      omega (arith, n, m, p, q)

  module _ (t w t₂ w₂ : List ℕ) (tl : Tally) where
    on_rows : (rs : List Row) {x y : Outcome Played} → Swapped us x y → Exchanged (play_by us tl (served (accepted rs) x t w)) (play_by us tl (served (accepted rs) y t₂ w₂))
    on_rows rs (alike r u c) = record { answer = SameAnswer.same (ap (λ z. record { number = numbered z; line = 0 }) r); units = u; tally = c tl }
    on_rows rs (bad e k) =
        record {
          answer = SameAnswer.bad_first (ap (λ z. record { number = refusal_number z; line = 0 }) e) (ap (λ z. record { number = refusal_number z; line = 0 }) k);
          units = ap (λ z. units_from z us) e ∙ sym (ap (λ z. units_from z us) k);
          tally = ap (λ z. tally_from z tl) e ∙ sym (ap (λ z. tally_from z tl) k);
        }
    on_rows rs (lists e k) =
        record {
          answer = SameAnswer.lists_first (ap (λ z. record { number = refusal_number z; line = 0 }) e) (ap (λ z. record { number = refusal_number z; line = 0 }) k);
          units = ap (λ z. units_from z us) e ∙ sym (ap (λ z. units_from z us) k);
          tally = ap (λ z. tally_from z tl) e ∙ sym (ap (λ z. tally_from z tl) k);
        }

    abbrev on : Verdict → List ℕ → List ℕ → List ℕ → Play
    on v script t w = play_by us tl (served v (go_on v (play_rows us script budget)) t w)

    served_either : (v : Verdict) → Exchanged (on v ab t w) (on v ba t₂ w₂)
    served_either (accepted rs) = on_rows rs (rows_either us budget rs a b ab ba first second apart)
    served_either (refused f n) = record { answer = SameAnswer.same refl; units = refl; tally = refl }

    -- the two plays, in areas that are short or long enough alike
    pub plays_either : (file : List ℕ) → short t w ≡ short t₂ w₂ → Exchanged (play_service file t w us ab budget tl) (play_service file t₂ w₂ us ba budget tl)
    unfolding play_service
    plays_either file e =
        let second_verdict : Verdict = unless (short t₂ w₂ || unequal us) (play_verdict us ba (verdict file)) in
        let same : unless (short t w || unequal us) (play_verdict us ab (verdict file)) ≡ second_verdict =
        ap₂ (λ c n. unless (c || unequal us) (cond (ltb max_units (length us.types) || ltb max_lines n) (refused too_long 0) (verdict file))) e same_many in
        subst (λ v. Exchanged (on v ab t w) (on second_verdict ba t₂ w₂)) (sym same) (served_either second_verdict)

  pub plays_exchanged : (file t w t₂ w₂ : List ℕ) (tl : Tally) → table_length ≤ length t → work_length ≤ length w → table_length ≤ length t₂ → work_length ≤ length w₂
      → Exchanged (play_service file t w us ab budget tl) (play_service file t₂ w₂ us ba budget tl)
  plays_exchanged file t w t₂ w₂ tl l₁ w₁ l₂ v₂ = plays_either t w t₂ w₂ tl file (long_enough t w l₁ w₁ ∙ sym (long_enough t₂ w₂ l₂ v₂))
