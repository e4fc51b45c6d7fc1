-- The desk program prints no carriage return, whatever it reads: its lines end with a line feed alone.
use Prim.Native.Nat.{ℕ}
use native.Mathlib.Nat.{ne_of_gt}
use native.Mathlib.Omega.{arith}
use mathlib.Core.Path.{refl}
use mathlib.Core.Bool.{Bool, true, false, cond}
use mathlib.Core.Option.{Option, none, some}
use mathlib.Core.List.{List, [], ◌∷◌, ◌++◌}
use lib.Dec.{leb}
use lib.ListN.{get_elem?}
use Rattle.limits.specs.Limits.{carriage_return, comma, line_feed}
use Rattle.calculus.specs.Tools.{concat}
use Rattle.calculus.specs.Refusals.{spent}
use Rattle.calculus.specs.Trees.{unit_leaf, empty_leaf, left, right, pair_node, element_node, Val, vleaf, vinj, vnode, Iso}
use Rattle.format.specs.Lines.{Row, lines, is_digit, decimal}
use Rattle.calculus.specs.Letters.{letters}
use Rattle.calculus.specs.Reduction.{Counted, reduce}
use Rattle.format.specs.Unfold.{isos_of}
use Rattle.model.specs.Services.{Verdict, accepted, refused, verdict, Answer, answer_of, Ran, fails, ended, within, argument, from, on_iso, run_rows, toward, RunAnswer, answer_of_run}
use Rattle.model.specs.Desk.{Query, query_of, answer_to, query_line, file_line, file_lines, query_lines, query_answers, desk}
use Rattle.calculus.proofs.Basic.{not_eqb, each_nil, each_cons, each_append, all_mem}
use Rattle.format.proofs.Numerals.{digit_lower, decimal_digits}
use Rattle.format.proofs.Endings.{NoReturn, Returnless}

nothing : Returnless []
nothing = each_nil NoReturn

joined : (xs : List ℕ) {ys : List ℕ} → Returnless xs → Returnless ys → Returnless (xs ++ ys)
joined xs h k = each_append NoReturn xs h k

behind : (b : ℕ) {bs : List ℕ} → NoReturn b → Returnless bs → Returnless (b ∷ bs)
behind b h k = each_cons NoReturn h k

pub decimal_plain : (n : ℕ) → Returnless (decimal n)
decimal_plain n b m = let low = digit_lower b (all_mem is_digit (decimal_digits n) m) in not_eqb {m = b} {n = carriage_return} (ne_of_gt (omega arith))

letters_plain : (v : Val) → Returnless (letters v)
letters_plain (vleaf unit_leaf) = behind _ refl nothing
letters_plain (vleaf empty_leaf) = behind _ refl nothing
letters_plain (vinj left v) = behind _ refl (letters_plain v)
letters_plain (vinj right v) = behind _ refl (letters_plain v)
letters_plain (vnode pair_node v w) = behind _ refl (joined (letters v) (letters_plain v) (letters_plain w))
letters_plain (vnode element_node v w) = behind _ refl (joined (letters v) (letters_plain v) (letters_plain w))

-- the letters of a run's answer
abbrev Plain : Ran → Type 0
Plain r = Returnless (answer_of_run r).letters

within_plain : (budget : ℕ) (r : Counted Val) → Plain (within budget r)
within_plain budget r = go r.0 (leb r.1 budget)
  where
    go : (x : Option Val) (b : Bool) → Plain (cond b (ended x r.1) (fails spent))
    go none true = nothing
    go (some w) true = letters_plain w
    go x false = nothing

from_plain : (os : List Iso) (i budget : ℕ) (o : Option Val) → Plain (from os i budget o)
from_plain os i budget none = nothing
from_plain os i budget (some v) = within_plain budget (reduce os i v)

iso_plain : (os : List Iso) (i budget : ℕ) (value : List ℕ) (o : Option Iso) → Plain (on_iso os i budget value o)
iso_plain os i budget value none = nothing
iso_plain os i budget value (some o) = from_plain os i budget (argument o value)

rows_plain : (rs : List Row) (i budget : ℕ) (value : List ℕ) → Plain (run_rows rs i budget value)
unfolding run_rows
rows_plain rs i budget value = iso_plain (isos_of rs) i budget value (get_elem? (isos_of rs) i)

answer_plain : (rs : List Row) (o : Option Query) → Plain (answer_to (accepted rs) o)
answer_plain rs none = nothing
answer_plain rs (some q) = rows_plain (toward q.back rs) q.iso q.budget q.letters

-- the lines that are printed
file_line_plain : (a : Answer) → Returnless (file_line a)
file_line_plain a = joined (decimal a.number) (decimal_plain a.number) (behind comma refl (joined (decimal a.line) (decimal_plain a.line) (behind line_feed refl nothing)))

query_line_plain : (a : RunAnswer) → Returnless a.letters → Returnless (query_line a)
query_line_plain a h =
    joined (decimal a.number) (decimal_plain a.number)
    (behind comma refl
    (joined (decimal a.count) (decimal_plain a.count)
    (behind comma refl (joined a.letters h (behind line_feed refl nothing)))))

answers_plain : (v : Verdict) (ls : List (List ℕ)) → Returnless (query_answers v ls)
answers_plain (refused f n) ls = nothing
answers_plain (accepted rs) [] = nothing
answers_plain (accepted rs) (l ∷ ls) =
    joined (query_line (answer_of_run (answer_to (accepted rs) (query_of l))))
    (query_line_plain (answer_of_run (answer_to (accepted rs) (query_of l))) (answer_plain rs (query_of l)))
    (answers_plain (accepted rs) ls)

pub desk_returnless : (bs : List ℕ) → Returnless (desk bs)
unfolding desk
desk_returnless bs =
    let v : Verdict = verdict (concat (file_lines (lines bs))) in
    joined (file_line (answer_of v)) (file_line_plain (answer_of v)) (answers_plain v (query_lines (lines bs)))
