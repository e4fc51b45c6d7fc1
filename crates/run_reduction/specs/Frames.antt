-- The reduction in the work area: what its functions assume of table, index and area, and what they leave there.
use Rattle.std.specs.Prelude.{ℕ, ◌+◌, ◌-◌, ◌*◌, ◌≤◌, ◌<◌, ◌≡◌, Bool, true, false, cond, ◌||◌, List, map, reverse, eqb, ltb, length, take, drop}
use Rattle.std.specs.declared.result.Result as Outcome
use Rattle.std.specs.Prelude.{Ok, Err}
use Rattle.std.proofs.Math.Option.{Option, none, some}
use Rattle.std.proofs.Math.ListN.{get_elem?}
use Rattle.limits.specs.Fields.{clause_left, clause_right}
use Rattle.limits.specs.Limits.{variables, max_letters, result_length, work_length, frame}
use Rattle.calculus.specs.Trees.{Pat, Val, Let, Clause, Iso, invert_let, invert_clause, invert}
use Rattle.calculus.specs.Slots.{Slots}
use Rattle.calculus.specs.Letters.{letters}
use Rattle.calculus.specs.Reduction.{build}
use Rattle.table_trees.specs.Unfolding.{cell_of, pattern_of}
use Rattle.table_walks.specs.InTable.{lets_in, let_at}
use Rattle.run_index.specs.Index.{place_at, iso_at}
use Rattle.run_values.specs.Texts.{At, alike, Below, ranges}
use Rattle.run_values.specs.Agrees.{Agrees}
use Rattle.run_values.specs.Traces.{Fitting, Over, LetTrace, LetsTrace, Runs}
use Rattle.run_reduction.specs.declared.Given as G
use Rattle.run_reduction.specs.declared.Place as P
use Rattle.run_reduction.specs.declared.Reduced as R
use Rattle.run_reduction.specs.declared.Stop as S
use Rattle.run_reduction.specs.declared.Stop.TheVariants as halt

-- an iso, a clause, a let step and let steps in a direction
abbrev pub sided : Bool → Iso → Iso
sided back o = cond back (invert o) o

abbrev pub sided_clause : Bool → Clause → Clause
sided_clause back c = cond back (invert_clause c) c

abbrev pub sided_let : Bool → Let → Let
sided_let back l = cond back (invert_let l) l

-- the let steps in n rows from row `from` on
abbrev pub sided_lets : Bool → List ℕ → ℕ → ℕ → ℕ → List Let
sided_lets back t base from n = cond back (reverse (map invert_let (lets_in t base from n))) (lets_in t base from n)

-- the pattern that is matched first, of the clause at place m of the index
abbrev pub side_at : List ℕ → ℕ → List ℕ → Bool → ℕ → Pat
side_at t base index back m = pattern_of t base (cell_of t (place_at index m) (cond back clause_right clause_left))

-- the isos of a direction stand in the table where the index says
pub record Laid (t : List ℕ) (base : ℕ) (index : List ℕ) (back : Bool) (os : List Iso) : Type 0 where
  pub isos : (i : ℕ) (o : Iso) → get_elem? os i ≡ some o → o ≡ sided back (iso_at t base index i)

-- the variables' ranges, all below `top`, hold the letters of the values in the slots
pub record EnvAt (work : List ℕ) (top : ℕ) (vars : List ℕ) (e : Slots Val) : Type 0 where
  pub agrees : Agrees (take top work) vars e
  pub below : Below vars top
  pub wide : length vars ≡ 2 * variables
  pub slots : length e ≡ variables

-- the clause at place `found` is chosen: its pattern is the last one matched
pub record Chosen (p : Pat) (v : Val) (at : ℕ) (vars vars' : List ℕ) (found r : ℕ) : Type 0 where
  pub place : r ≡ found
  pub earlier : List ℕ
  pub below : Below earlier (at + length (letters v))
  pub wide : length earlier ≡ length vars
  pub matched : vars' ≡ ranges p v at earlier

-- what is left alone of an area: all before place `from`, and all from place `to` on
pub record Spares (work work' : List ℕ) (from to : ℕ) : Type 0 where
  pub before : take from work' ≡ take from work
  pub behind : drop to work' ≡ drop to work

-- "An argument … of over 127 letters, or calls nested deeper than 40": what is measured before an application, its argument from `at` up to `end`
abbrev pub too_large : ℕ → ℕ → ℕ → Bool
too_large depth at end = eqb depth 0 || ltb max_letters (end - at)

-- what an application or the right pattern of a clause gives, what let steps leave; or what they meet
abbrev pub Giving : Type 0
Giving = Outcome.Result G.Given S.Stop

abbrev pub Reducing : Type 0
Reducing = Outcome.Result R.Reduced S.Stop

abbrev pub given_at : ℕ → ℕ → ℕ → Giving
given_at begin end left = Ok (record { at = begin; end = end; left = left })

abbrev pub done_at : ℕ → ℕ → Reducing
done_at top left = Ok (record { top = top; left = left })

-- what is left of the budget, which falls with each application
abbrev pub rest_of : Giving → ℕ
rest_of (Ok g) = g.left
rest_of (Err s) = 0

abbrev pub remaining : Reducing → ℕ
remaining (Ok r) = r.left
remaining (Err s) = 0

-- a result's letters stand where it says, before `dest` or from there on
pub record Result (work' : List ℕ) (dest left : ℕ) (w : Val) (r : Giving) : Type 0 where
  pub begin : ℕ
  pub gives : r ≡ given_at begin (begin + length (letters w)) left
  pub stands : At work' begin w
  pub near : begin + length (letters w) ≤ dest + result_length

-- What an application comes to with m applications, x, against a budget: "an application is counted against the budget, then its argument and
-- depth are measured, its result when it is there". What has passed the budget before it ends or stops is spent.
pub data Answers (work' : List ℕ) (dest left : ℕ) (x : Option Val) (m : ℕ) (r : Giving) : Type 0 where
  spent : left < m → r ≡ Err halt.Spent → Answers work' dest left x m r
  large : m ≤ left → x ≡ none → r ≡ Err halt.Large → Answers work' dest left x m r
  gives : (w : Val) → m ≤ left → x ≡ some w → Result work' dest (left - m) w r → Answers work' dest left x m r

-- An application touches no more than as many frames as calls may nest; what these hold beside the result, and all that they hold where there
-- is none, is left open.
pub record Applied (work work' : List ℕ) (dest depth left : ℕ) (x : Option Val) (m : ℕ) (r : Giving) : Type 0 where
  pub answers : Answers work' dest left x m r
  pub spares : Spares work work' dest (dest + depth * frame)

-- let steps that end in the slots g, with at most n results more in the area
pub record Reached (work' vars' : List ℕ) (top n left : ℕ) (g : Slots Val) (r : Reducing) : Type 0 where
  pub next : ℕ
  pub further : top ≤ next
  pub near : next ≤ top + n * result_length
  pub done : r ≡ done_at next left
  pub env : EnvAt work' next vars' g

-- what n let steps come to with m applications, x, against a budget; of the variables nothing is said where they do not end
pub data Comes (work' vars' : List ℕ) (top n left : ℕ) (x : Option (Slots Val)) (m : ℕ) (r : Reducing) : Type 0 where
  spent : left < m → r ≡ Err halt.Spent → Comes work' vars' top n left x m r
  large : m ≤ left → x ≡ none → r ≡ Err halt.Large → Comes work' vars' top n left x m r
  ends : (g : Slots Val) → m ≤ left → x ≡ some g → Reached work' vars' top n (left - m) g r → Comes work' vars' top n left x m r

-- they touch no more than their results and the frames of the calls that they make
pub record Stepped (work work' vars' : List ℕ) (top n depth left : ℕ) (x : Option (Slots Val)) (m : ℕ) (r : Reducing) : Type 0 where
  pub comes : Comes work' vars' top n left x m r
  pub spares : Spares work work' top (top + n * result_length + depth * frame)

-- the result of a clause, where its right pattern builds w
pub data Gives (work' : List ℕ) (dest left : ℕ) (w : Val) (r : Giving) : Type 0 where
  large : Over w → r ≡ Err halt.Large → Gives work' dest left w r
  gives : Fitting w → Result work' dest left w r → Gives work' dest left w r

pub record Gave (work work' : List ℕ) (top dest left : ℕ) (w : Val) (r : Giving) : Type 0 where
  pub gives : Gives work' dest left w r
  pub spares : Spares work work' dest (top + result_length)

-- an argument in the area: it stands before `free`, which is near `dest`
pub record Stood (work : List ℕ) (at end dest free : ℕ) (v : Val) : Type 0 where
  pub stands : At work at v
  pub ends : end ≡ at + length (letters v)
  pub low : end ≤ free
  pub over : dest ≤ free
  pub near : free ≤ dest + result_length

-- an argument that is handed over: one of over 127 letters need not stand anywhere, and is told by its ends
pub record Handed (work : List ℕ) (at end dest free : ℕ) (v : Val) : Type 0 where
  pub large : Over v → at + max_letters < end
  pub fits : Fitting v → Stood work at end dest free v

-- the argument of a let step, where its q builds u and leaves the slots f
pub record Argued (work work' vars : List ℕ) (top : ℕ) (u : Val) (f : Slots Val) (a : P.Place) : Type 0 where
  pub handed : Handed work' a.at a.end top a.free u
  pub spares : Spares work work' top (top + result_length)
  pub rest : EnvAt work top vars f

-- ---- what the functions promise, for whatever trace there is

-- The choice among the clauses from place `from` up to place `stop` of the index: where v's letters stand from `at` up to `end` and the
-- clause at from + n is the first that matches v, it is chosen.
abbrev pub ChoiceSays : List ℕ → ℕ → List ℕ → Bool → ℕ → ℕ → List ℕ → ℕ → ℕ → List ℕ → List ℕ → ℕ → Type 0
ChoiceSays t base index back from stop work at end vars vars' r =
    (v : Val) (n : ℕ) → At work at v → end ≡ at + length (letters v) → Below vars (at + length (letters v)) → from + n < stop
    → alike (side_at t base index back (from + n)) v ≡ true
    → ((k : ℕ) → k < n → alike (side_at t base index back (from + k)) v ≡ false)
    → Chosen (side_at t base index back (from + n)) v at vars vars' (from + n) r

-- A let step, where calls nest at most `depth` deeper: where it comes to x from the slots e with m applications, it does so in the area, which
-- has room for its result and a frame for each of these calls.
abbrev pub StepSays : List ℕ → ℕ → List ℕ → Bool → ℕ → ℕ → List ℕ → List ℕ → ℕ → List ℕ → List ℕ → ℕ → Reducing → Type 0
StepSays t base index back depth row work work' top vars vars' left r =
    (os : List Iso) (l : Let) (e : Slots Val) (x : Option (Slots Val)) (m : ℕ)
    → Laid t base index back os → l ≡ sided_let back (let_at t base row) → LetTrace (Runs depth os) l e x m
    → EnvAt work top vars e → top + 1 * result_length + depth * frame ≤ length work → length work ≤ work_length
    → Stepped work work' vars' top 1 depth left x m r

-- The let steps in the rows from `from` up to `to`, the same for all of them.
abbrev pub LetsSay : List ℕ → ℕ → List ℕ → Bool → ℕ → ℕ → ℕ → List ℕ → List ℕ → ℕ → List ℕ → List ℕ → ℕ → Reducing → Type 0
LetsSay t base index back depth from to work work' end vars vars' budget r =
    (os : List Iso) (ls : List Let) (e : Slots Val) (x : Option (Slots Val)) (m : ℕ)
    → Laid t base index back os → ls ≡ sided_lets back t base from (to - from) → LetsTrace (Runs depth os) ls e x m
    → EnvAt work end vars e → end + length ls * result_length + depth * frame ≤ length work → length work ≤ work_length
    → Stepped work work' vars' end (length ls) depth budget x m r

-- An application of iso i to the value v from `at` up to `end`, where calls nest at most `depth` deep: where it comes to x with m applications,
-- it does so in the area, which has a frame for each of these calls from `dest` on.
abbrev pub ApplySays : List ℕ → ℕ → List ℕ → Bool → ℕ → ℕ → List ℕ → List ℕ → ℕ → ℕ → ℕ → ℕ → ℕ → Giving → Type 0
ApplySays t base index back i depth work work' at end dest free left r =
    (os : List Iso) (v : Val) (x : Option Val) (m : ℕ)
    → Laid t base index back os → Runs depth os i v x m → Handed work at end dest free v
    → dest + depth * frame ≤ length work → length work ≤ work_length
    → Applied work work' dest depth left x m r

-- the result of a clause, by its right pattern p: where it fits, and wherever
abbrev pub SettleSays : Pat → List ℕ → List ℕ → List ℕ → ℕ → ℕ → ℕ → Giving → Type 0
SettleSays p vars work work' top dest left r =
    (e f : Slots Val) (w : Val) → build p e ≡ some (w, f) → Fitting w → EnvAt work top vars e → dest ≤ top → top + result_length ≤ length work
    → Result work' dest left w r × Spares work work' dest (top + result_length)

abbrev pub GiveSays : Pat → List ℕ → List ℕ → List ℕ → ℕ → ℕ → ℕ → Giving → Type 0
GiveSays p vars work work' top dest left r =
    (e f : Slots Val) (w : Val) → build p e ≡ some (w, f) → EnvAt work top vars e → dest ≤ top → top + result_length ≤ length work
    → Gave work work' top dest left w r

-- the argument of a let step, by its q
abbrev pub ArgueSays : Pat → List ℕ → List ℕ → List ℕ → ℕ → P.Place → Type 0
ArgueSays p vars work work' top a =
    (e f : Slots Val) (u : Val) → build p e ≡ some (u, f) → EnvAt work top vars e → top + result_length ≤ length work → Argued work work' vars top u f a
