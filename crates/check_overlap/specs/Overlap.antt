-- What the overlap of two P lines of a file answers, and what it leaves in the lent areas.
use Rattle.std.specs.Prelude.{ℕ, Bool, false, List}
use Rattle.std.proofs.Math.Option.{Option, none, some}
use Rattle.std.proofs.Math.ListN.{get_elem?}
use Rattle.calculus.specs.Trees.{Pat}
use Rattle.calculus.specs.Refusals.{Refusal, no_iso}
use Rattle.format.specs.Lines.{Row}
use Rattle.format.specs.Judge.{start, after_all}
use Rattle.model.specs.Services.{Verdict, verdict, short, Outcome, gives, fails, go_on, refusal_of, refusal_number, Served, serve}
use Rattle.check_overlap.specs.Comparison.{Compared, compare}

-- the patterns of a file's P lines, numbered from 0
unfoldable pub patterns_of : List Row → List Pat
unfolding start
patterns_of rs = (after_all start rs).patterns

-- 15 where one is absent
abbrev pub on_patterns : Option Pat → Option Pat → Outcome Compared
on_patterns none q = fails no_iso
on_patterns (some p) none = fails no_iso
on_patterns (some p) (some q) = gives (compare p q)

-- for two P lines of an accepted file
abbrev pub overlap_rows : ℕ → ℕ → List Row → Outcome Compared
overlap_rows i j rs = on_patterns (get_elem? (patterns_of rs) i) (get_elem? (patterns_of rs) j)

abbrev pub overlap_on : Verdict → ℕ → ℕ → Outcome Compared
overlap_on v i j = go_on v (overlap_rows i j)

-- a refusal gives its number and line, false and 0
abbrev pub clash_of : Outcome Compared → Bool
clash_of (gives c) = c.clash
clash_of (fails f) = false

abbrev pub pairs_of : Outcome Compared → ℕ
pairs_of (gives c) = c.pairs
pairs_of (fails f) = 0

pub record Overlapped : Type 0 where
  pub refusal : Option Refusal
  pub number : ℕ
  pub line : ℕ
  pub clash : Bool
  pub pairs : ℕ
  pub table : List ℕ
  pub work : List ℕ

abbrev pub overlapped_by : Served Compared → Overlapped
overlapped_by s =
    record {
      refusal = refusal_of s.outcome;
      number = refusal_number s.outcome;
      line = s.line;
      clash = clash_of s.outcome;
      pairs = pairs_of s.outcome;
      table = s.table;
      work = s.work;
    }

abbrev pub overlap_served : List ℕ → List ℕ → List ℕ → ℕ → ℕ → Served Compared
overlap_served file table work i j = serve (short table work) (verdict file) (overlap_rows i j) table work

unfoldable pub overlap_service : List ℕ → List ℕ → List ℕ → ℕ → ℕ → Overlapped
unfolding verdict patterns_of
overlap_service file table work i j = overlapped_by (overlap_served file table work i j)
