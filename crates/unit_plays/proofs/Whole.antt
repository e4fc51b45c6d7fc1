-- An accepted file: the part of the work area that is used, and the tests and the play against the definition.
use Rattle.std.specs.Prelude.{Option as CodeOption}
use Prim.Native.Nat.{ℕ, ◌+◌, ◌-◌, ◌≤◌, min}
use native.Mathlib.Nat.{sub-zero}
use native.Mathlib.Omega.{arith}
use mathlib.Core.Path.{◌≡◌, refl, sym, ap, ap₂, ◌∙◌, subst}
use mathlib.Core.Bool.{Bool, true, false}
use mathlib.Core.Option.{Option, none, some}
use mathlib.Core.List.{List, [], ◌∷◌, ◌++◌, append_assoc}
use lib.ListN.{length, take, drop, replicate, length-map, take-append-drop}
use lib.Seq.{drop-append-le, drop-drop, length-take-le}
use borrow.Rule.Slice.PartMut.{mid_of, post_of}
use Rattle.limits.specs.Limits.{run_room, work_length, max_lines}
use Rattle.calculus.specs.Tools.{is_some, or_else}
use Rattle.calculus.specs.Refusals.{Refusal}
use Rattle.format.specs.Lines.{Row, lines}
use Rattle.format.specs.Unfold.{isos_of}
use Rattle.format.specs.Code.{refusal_view}
use Rattle.format.specs.declared.Refusal as F
use Rattle.model.specs.Services.{Outcome, gives, fails, refusal_of}
use Rattle.calculus.proofs.Basic.{none≢some, some_inj, is_some_true, or_else_none}
use Rattle.area_parts.specs.Cleared.{cleared}
use Rattle.checker.specs.CheckSays.{Accepted}
use Rattle.checker.specs.declared.Checked as C
use Rattle.checker.proofs.Checks.{flag_none}
use Rattle.runner.specs.RunSays.{Prepared}
use Rattle.law_units.specs.Units.{Planned, script_of, Units, units_fault, outcomes, Played, played, on_script, on_units, units_from, play_rows}
use Rattle.law_units.proofs.Counts.{script_length, outcomes_length}
use Rattle.unit_visits.specs.Visiting.{Playable, marked}
use Rattle.unit_plays.specs.Playing.{units_in, marks_of, with_marks, ScriptPlayed, Ready, script_fault, marks_from, Into, LinesPlayed, AllPlayed}

-- ---- the part of the work area

-- what lies behind the marks, in a part that is put back
behind_part : (w : List ℕ) (n k : ℕ) → n ≤ length w → k ≤ n → drop k (take n w) ++ drop n w ≡ drop k w
behind_part w n k h l =
    let e = length-take-le n w h in
    sym (drop-append-le k (take n w) (drop n w) (omega (arith, e))) ∙ ap (drop k) (take-append-drop n w)

part_marks : (w : List ℕ) (n : ℕ) (ms ys : List ℕ) → n ≤ length w → run_room + length ms ≤ n → length ys ≡ n
    → drop run_room ys ≡ ms ++ drop (length ms) (drop run_room (take n w)) → drop run_room (ys ++ drop n w) ≡ ms ++ drop (length ms) (drop run_room w)
part_marks w n ms ys h room long e =
    drop-append-le run_room ys (drop n w) (omega (arith, long))
    ∙ ap (λ z. z ++ drop n w) (e ∙ ap (λ z. ms ++ z) (drop-drop (length ms) run_room (take n w)))
    ∙ append_assoc ms (drop (run_room + length ms) (take n w)) (drop n w)
    ∙ ap (λ z. ms ++ z) (behind_part w n (run_room + length ms) h room ∙ sym (drop-drop (length ms) run_room w))

-- no more marks than lines
marks_few : (rs : List Row) (budget : ℕ) (q is ns : List ℕ) (ps : List Planned) → Ready rs q is ns ps → length (marks_of rs budget ps (units_in is ns)) ≤ max_lines
marks_few rs budget q is ns ps r =
    let a = length-map (outcomes rs budget ps (units_in is ns)) marked in
    let b = outcomes_length rs budget ps (units_in is ns) in
    let c = script_length (length is) (isos_of rs) (lines q) ps r.script in
    let d = r.few in
    omega (arith, a, b, c, d)

pub part_played : (rs : List Row) (budget : ℕ) (q is ns : List ℕ) (ps : List Planned) → Ready rs q is ns ps → (room : ℕ) (w ys : List ℕ) {is' ns' : List ℕ} → room ≤ length w
    → length ys ≡ length (mid_of 0 (room - 0) w) → run_room + max_lines ≤ room → ScriptPlayed rs budget ps (mid_of 0 (room - 0) w) is ns ys is' ns'
    → ScriptPlayed rs budget ps w is ns (ys ++ post_of 0 (room - 0) w) is' ns'
part_played rs budget q is ns ps r room w ys h long enough s =
    let few = marks_few rs budget q is ns ps r in
    let z = sub-zero room in
    let fits : room - 0 ≤ length w = omega (arith, z, h) in
    let l = length-take-le (room - 0) w fits in
    record {
      units = s.units;
      marks = part_marks w (room - 0) (marks_of rs budget ps (units_in is ns)) ys fits (omega (arith, few, enough, z)) (omega (arith, long, l)) s.marks;
    }

-- ---- the tests and the play

module _ (rs : List Row) (budget : ℕ) (us : Units) where
  abbrev result : Option Refusal → Outcome (List Planned) → Outcome Played
  result (some f) y = fails f
  result none y = on_script rs budget us y

  refusal_of_lem : (u : Option Refusal) (y : Outcome (List Planned)) → refusal_of (result u y) ≡ or_else u (refusal_of y)
  refusal_of_lem (some f) y = refl
  refusal_of_lem none (fails f) = refl
  refusal_of_lem none (gives ps) = refl

  rows_result : (q : List ℕ) → play_rows us q budget rs ≡ result (units_fault rs us.types us.settings) (script_of (length us.types) (isos_of rs) (lines q))
  unfolding play_rows
  rows_result q = go (units_fault rs us.types us.settings)
    where
      go : (u : Option Refusal) → on_units rs budget us (lines q) u ≡ result u (script_of (length us.types) (isos_of rs) (lines q))
      go none = refl
      go (some f) = refl

  -- a refusal
  failed : (x : Outcome Played) {f : Refusal} → refusal_of x ≡ some f → (us ≡ units_from x us) × (marks_from x ≡ [])
  failed (gives y) e = absurd (none≢some e)
  failed (fails g) e = (refl, refl)

module _ {s t : List ℕ} {c : C.Checked} (a : Accepted s t c) (q : List ℕ) (budget : ℕ) (is ns : List ℕ) (long : length is ≡ length ns) (few : length (lines q) ≤ max_lines) where
  abbrev us₀ : Units
  us₀ = units_in is ns

  abbrev told : Outcome Played
  told = play_rows us₀ q budget a.file

  -- the tests are those of the definition
  tests : {x : Option Refusal} → x ≡ or_else (units_fault a.file is ns) (script_fault (length is) (isos_of a.file) q) → x ≡ refusal_of told
  tests e =
      e ∙ sym (ap refusal_of (rows_result a.file budget us₀ q) ∙ refusal_of_lem a.file budget us₀ (units_fault a.file is ns) (script_of (length is) (isos_of a.file) (lines q)))

  pub into_refused : (w : List ℕ) {r : CodeOption F.Refusal} {b : Bool} → refusal_view r ≡ or_else (units_fault a.file is ns) (script_fault (length is) (isos_of a.file) q) → b
      ≡ is_some (refusal_view r)
      → b ≡ true
      → Into told w is ns w is ns r
  into_refused w {r} e g y =
      let f = is_some_true (refusal_view r) (sym g ∙ y) in
      let z = failed a.file budget us₀ told (sym (tests e) ∙ f.1) in
      record {
        refusal = tests e;
        units = z.0;
        work = sym (take-append-drop run_room w) ∙ ap (λ ms. with_marks ms w) (sym z.1);
      }

  module _ (r : CodeOption F.Refusal) {b : Bool} (e : refusal_view r ≡ or_else (units_fault a.file is ns) (script_fault (length is) (isos_of a.file) q)) (g : b ≡ is_some (refusal_view r))
      (y : b ≡ false) where
    passed : (units_fault a.file is ns ≡ none) × (script_fault (length is) (isos_of a.file) q ≡ none)
    passed = or_else_none (units_fault a.file is ns) (script_fault (length is) (isos_of a.file) q) (sym e ∙ flag_none b (refusal_view r) g y)

    pub read : (ps : List Planned) × Ready a.file q is ns ps
    read = go (script_of (length is) (isos_of a.file) (lines q)) refl passed.1
      where
        go : (x : Outcome (List Planned)) → script_of (length is) (isos_of a.file) (lines q) ≡ x → refusal_of x ≡ none → (ps : List Planned) × Ready a.file q is ns ps
        go (fails z) f h = absurd (none≢some (sym h))
        go (gives ps) f h = (ps, record { long = long; passes = passed.0; script = f; few = few })

    gives_all : told ≡ gives (played a.file budget us₀ read.0)
    gives_all =
        rows_result a.file budget us₀ q
        ∙ ap₂ (result a.file budget us₀) passed.0 read.1.script

    pub into_played : (w w₁ : List ℕ) {w' is' ns' : List ℕ} {f : CodeOption F.Refusal} → refusal_view f ≡ none → work_length ≤ length w₁ → take run_room w ≡ replicate run_room 0
        → ScriptPlayed a.file budget read.0 w is ns w₁ is' ns' → w' ≡ cleared run_room w₁ → Into told w is ns w' is' ns' f
    into_played w w₁ n big zeros p d =
        let least : min run_room (length w₁) ≡ run_room = omega (arith, big) in
        record {
          refusal = n ∙ sym (ap refusal_of gives_all);
          units = p.units ∙ sym (ap (λ x. units_from x us₀) gives_all);
          work =
              d ∙ ap (λ k. replicate k 0 ++ drop run_room w₁) least ∙ ap₂ ◌++◌ (sym zeros) p.marks
              ∙ ap (λ ms. with_marks ms w) (sym (ap marks_from gives_all));
        }
