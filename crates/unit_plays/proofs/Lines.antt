-- The lines of a script, played one after the other.
use Prim.Native.Nat.{ℕ, suc, ◌+◌, ◌-◌, ◌≤◌, ◌<◌}
use native.Mathlib.Numerals.{add-one}
use native.Mathlib.Omega.{arith}
use mathlib.Core.Path.{◌≡◌, refl, sym, ap, ap₂, ◌∙◌, subst}
use mathlib.Core.Bool.{true}
use mathlib.Core.Option.{Option, none, some}
use mathlib.Core.List.{List, [], ◌∷◌, ◌++◌, append-nil, append_assoc}
use lib.ListN.{length, take, drop, get_or, set, length-append, length-drop, drop_of_length-le}
use lib.Seq.{drop-cons, set_at}
use Rattle.limits.specs.Limits.{run_room, work_length, max_lines}
use Rattle.calculus.specs.Trees.{Iso}
use Rattle.calculus.specs.Lists.{is_free}
use Rattle.format.specs.Lines.{Row, lines}
use Rattle.format.specs.Unfold.{isos_of}
use Rattle.model.specs.Services.{gives}
use Rattle.model.proofs.Outcomes.{gives_inj}
use Rattle.calculus.proofs.Basic.{none≢some, some_inj}
use Rattle.runner.specs.RunSays.{InRoom}
use Rattle.read_fields.specs.Views.{LineEnd}
use Rattle.law_units.specs.Units.{Planned, planned_of, script_of, Units, Holds, units_after, Visited, visit_to, moved}
use Rattle.law_units.proofs.Playing.{AllHold, all_hold, visit_keeps, script_first}
use Rattle.unit_script.specs.declared.Planned as P
use Rattle.std.specs.Prelude as O
use Rattle.std.specs.Prelude.{Some, None}
use Rattle.unit_script.specs.Views.{planned_view, as_planned}
use Rattle.unit_visits.specs.Visiting.{Playable, marked, OneVisited, Played}
use Rattle.unit_plays.specs.Playing.{units_in, LinePlayed, marks_of, ScriptPlayed, Ready}

-- ---- a line

module _ {t : List ℕ} {types : ℕ} {index : List ℕ} {isos k budget : ℕ} {w is ns w' is' ns' : List ℕ} (l : List ℕ) {r : O.Option P.Planned} (read : as_planned r ≡ planned_of l) where
  pub line_played : {p : P.Planned} → r ≡ Some p → OneVisited t types index isos p k budget w is ns w' is' ns' → LinePlayed t types index isos l k budget w is ns w' is' ns'
  line_played {p} e one rs a q f =
      let same : planned_view p ≡ q = some_inj (sym (ap as_planned e) ∙ read ∙ f) in
      subst
      (λ (z : Planned). Holds rs (get_or is z.unit 0) (get_or ns z.unit 0) → z.iso < isos → is_free (isos_of rs) z.iso ≡ true → InRoom (length w)
      (k < max_lines → Played rs budget z k w is ns w' is' ns'))
      same (one rs a)

  pub line_bad : r ≡ None → LinePlayed t types index isos l k budget w is ns w' is' ns'
  line_bad e rs a q f = absurd (none≢some (sym (ap as_planned e) ∙ read ∙ f))

-- ---- between two lines

-- what is still to come of a play, and what is done: the visits to come, the units, and the marks so far
pub record Between (rs : List Row) (q : List ℕ) (budget : ℕ) (ps₀ : List Planned) (w₀ is₀ ns₀ w is ns : List ℕ) (at k : ℕ) : Type 0 where
  pub ps : List Planned
  pub left : script_of (length is₀) (isos_of rs) (lines (drop at q)) ≡ gives ps
  pub hold : AllHold rs (units_in is ns)
  pub units : units_after rs budget ps (units_in is ns) ≡ units_after rs budget ps₀ (units_in is₀ ns₀)
  pub past : List ℕ
  pub number : length past ≡ k
  pub all : marks_of rs budget ps₀ (units_in is₀ ns₀) ≡ past ++ marks_of rs budget ps (units_in is ns)
  pub marks : drop run_room w ≡ past ++ drop k (drop run_room w₀)

-- a mark more
mark_more : (base past : List ℕ) (k m : ℕ) {l l' : List ℕ} → l ≡ past ++ drop k base → length past ≡ k → k < length base → l' ≡ set l k m
    → l' ≡ (past ++ (m ∷ [])) ++ drop (k + 1) base
mark_more base past k m e n h f =
    f ∙ ap (λ z. set z k m) (e ∙ ap (λ z. past ++ z) (drop-cons base k 0 h)) ∙ set_at past (get_or base k 0) (drop (suc k) base) m k n
    ∙ ap (λ z. past ++ (m ∷ drop z base)) (sym (add-one k)) ∙ sym (append_assoc past (m ∷ []) (drop (k + 1) base))

module _ (rs : List Row) (q : List ℕ) (budget : ℕ) (ps₀ : List Planned) (w₀ is₀ ns₀ : List ℕ) {w is ns : List ℕ} {at k : ℕ} (b : Between rs q budget ps₀ w₀ is₀ ns₀ w is ns at k) where
  abbrev us : Units
  us = units_in is ns

  module _ {w' is' ns' : List ℕ} (end : ℕ) (p : Planned) (qs : List Planned) (first : b.ps ≡ p ∷ qs) (rest : script_of (length is₀) (isos_of rs) (lines (drop end q)) ≡ gives qs)
      (y : Played rs budget p k w is ns w' is' ns') (keeps : AllHold rs (moved (visit_to rs budget us p) p.unit us)) (room : k < length (drop run_room w₀)) where
    abbrev m : ℕ
    m = marked (visit_to rs budget us p)

    after : units_in is' ns' ≡ moved (visit_to rs budget us p) p.unit us
    after = ap₂ units_in y.types y.settings

    between_next : Between rs q budget ps₀ w₀ is₀ ns₀ w' is' ns' end (k + 1)
    between_next =
        let n = b.number in
        record {
          ps = qs;
          left = rest;
          hold = subst (AllHold rs) (sym after) keeps;
          units = ap (units_after rs budget qs) after ∙ ap (λ zs. units_after rs budget zs us) (sym first) ∙ b.units;
          past = b.past ++ (m ∷ []);
          number = omega (arith, length-append b.past (m ∷ []), n);
          all =
              b.all ∙ ap (λ zs. b.past ++ marks_of rs budget zs us) first
              ∙ ap (λ z. b.past ++ (m ∷ marks_of rs budget qs z)) (sym after)
              ∙ sym (append_assoc b.past (m ∷ []) (marks_of rs budget qs (units_in is' ns')));
          marks = mark_more (drop run_room w₀) b.past k m b.marks b.number room y.marks;
        }

-- ---- the loop

-- before the line at place `at`, which is visit k
pub record Through (t : List ℕ) (types : ℕ) (index : List ℕ) (isos : ℕ) (q : List ℕ) (budget : ℕ) (w₀ is₀ ns₀ w is ns : List ℕ) (at k : ℕ) : Type 0 where
  pub within : at ≤ length q
  pub counted : k ≤ at
  pub lines_left : k + length (lines (drop at q)) ≡ length (lines q)
  pub works : length w ≡ length w₀
  pub wide : length is ≡ length is₀
  pub long : length ns ≡ length ns₀
  pub so : (rs : List Row) → Playable t types index isos rs → (ps₀ : List Planned) → Ready rs q is₀ ns₀ ps₀ → run_room + max_lines ≤ length w₀ → length w₀ ≤ work_length
      → Between rs q budget ps₀ w₀ is₀ ns₀ w is ns at k

pub through_start : (t : List ℕ) (types : ℕ) (index : List ℕ) (isos : ℕ) (q : List ℕ) (budget : ℕ) (w is ns : List ℕ) → Through t types index isos q budget w is ns w is ns 0 0
through_start t types index isos q budget w is ns =
    record {
      within = omega arith;
      counted = omega arith;
      lines_left = omega arith;
      works = refl;
      wide = refl;
      long = refl;
      so = λ rs a ps₀ r h m.
          record {
            ps = ps₀;
            left = r.script;
            hold = all_hold rs (units_in is ns) r.long r.passes;
            units = refl;
            past = [];
            number = refl;
            all = refl;
            marks = refl;
          };
    }

module _ {t : List ℕ} {types : ℕ} {index : List ℕ} {isos : ℕ} {q : List ℕ} {budget : ℕ} {w₀ is₀ ns₀ w is ns : List ℕ} {at k : ℕ}
    (x : Through t types index isos q budget w₀ is₀ ns₀ w is ns at k) where
  pub through_next : at < length q → {end : ℕ} → LineEnd q at end → {w' is' ns' : List ℕ}
      → LinePlayed t types index isos (take (end - at) (drop at q)) k budget w is ns w' is' ns'
      → length w' ≡ length w → length is' ≡ length is → length ns' ≡ length ns → Through t types index isos q budget w₀ is₀ ns₀ w' is' ns' end (k + 1)
  through_next h {end} e {w'} {is'} {ns'} one kw ki kn =
      let s = ap length (e.splits h) in
      let l = x.lines_left in
      record {
        within = e.within h;
        counted = omega (arith, x.counted, e.further h);
        lines_left = omega (arith, s, l);
        works = kw ∙ x.works;
        wide = ki ∙ x.wide;
        long = kn ∙ x.long;
        so = λ rs a ps₀ r room most.
            let b = x.so rs a ps₀ r room most in
            let f = script_first (length is₀) (isos_of rs) (take (end - at) (drop at q)) (lines (drop end q)) b.ps (sym (ap (script_of (length is₀) (isos_of rs)) (e.splits h)) ∙ b.left) in
            let wide = x.wide in
            let works = x.works in
            let few = r.few in
            let count = a.prepared.count in
            let here : f.0.unit < length is = omega (arith, f.4, wide) in
            let low : f.0.iso < isos = omega (arith, f.5, count) in
            let there = length-drop run_room w₀ in
            let small : k < max_lines = omega (arith, s, l, few) in
            between_next rs q budget ps₀ w₀ is₀ ns₀ b end f.0 f.1 f.2 f.6
            (one rs a f.0 f.3 (b.hold.each f.0.unit here) low f.7 (omega (arith, room, works)) (omega (arith, most, works)) small)
            (visit_keeps rs (units_in is ns) b.hold a.prepared.good budget f.0 here f.5 f.7)
            (omega (arith, small, room, there));
      }

  pub through_end : length q ≤ at → (rs : List Row) → Playable t types index isos rs → (ps₀ : List Planned) → Ready rs q is₀ ns₀ ps₀ → run_room + max_lines ≤ length w₀
      → length w₀ ≤ work_length → ScriptPlayed rs budget ps₀ w₀ is₀ ns₀ w is ns
  through_end h rs a ps₀ r room most =
      let b = x.so rs a ps₀ r room most in
      let nothing : b.ps ≡ [] = gives_inj (sym b.left ∙ ap (λ l. script_of (length is₀) (isos_of rs) (lines l)) (drop_of_length-le q {i = at} h)) in
      let all : marks_of rs budget ps₀ (units_in is₀ ns₀) ≡ b.past = b.all ∙ ap (λ zs. b.past ++ marks_of rs budget zs (units_in is ns)) nothing ∙ append-nil b.past in
      record {
        units = ap (λ zs. units_after rs budget zs (units_in is ns)) (sym nothing) ∙ b.units;
        marks =
            b.marks ∙ ap (λ n. b.past ++ drop n (drop run_room w₀)) (sym b.number)
            ∙ ap (λ z. z ++ drop (length z) (drop run_room w₀)) (sym all);
      }
