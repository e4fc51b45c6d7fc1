-- Request 06 for the reader of pair lists: "either ending on each line", "Every reader of lines … follows".
use Prim.Native.Nat.{ℕ, suc}
use mathlib.Core.Path.{◌≡◌, refl, ap, ap₂}
use mathlib.Core.Bool.{cond, ◌||◌}
use mathlib.Core.Option.{Option, none, some}
use mathlib.Core.List.{List, ◌∷◌}
use lib.Dec.{ltb}
use lib.ListN.{length, get_elem?}
use Rattle.limits.specs.Limits.{max_pairs, max_clauses, import_length}
use Rattle.calculus.specs.Tools.{◌>>=◌, guard}
use Rattle.calculus.specs.Trees.{Ty}
use Rattle.calculus.specs.Refusals.{ceiling, clause_line, too_many}
use Rattle.format.specs.Lines.{Row}
use Rattle.model.specs.Services.{Verdict, accepted, refused, verdict, unless, short, Outcome, fails, served, output_by}
use Rattle.law_ranking.specs.Numbering.{count, types_of}
use Rattle.law_endings.specs.Resaved.{SameLine, SameLines, done, next, Resaved}
use Rattle.law_endings.proofs.Lines.{text_same, count_same}
use Rattle.law_pairlists.specs.PairLists.{to_in, to_of, tos_of, pairs_up, list_of, on_list, on_lines, on_types, import_rows, import_on, import_service}

to_alike : (k : ℕ) {l m : List ℕ} → SameLine l m → to_of k l ≡ to_of k m
to_alike k h = ap (λ x. x >>= λ u. to_in k u) (text_same h)

tos_alike : (k : ℕ) {ls ms : List (List ℕ)} → SameLines ls ms → tos_of k ls ≡ tos_of k ms
tos_alike k done = refl
tos_alike k (next h hs) = ap₂ (λ a b. a >>= λ t. b >>= λ ts. some (t ∷ ts)) (to_alike k h) (tos_alike (suc k) hs)

list_alike : (a b : Ty) {ls ms : List (List ℕ)} → SameLines ls ms → list_of a b ls ≡ list_of a b ms
unfolding list_of
list_alike a b h = ap (λ x. x >>= λ ts. guard (pairs_up a b ts) >>= λ _. some ts) (tos_alike 0 h)

lines_alike : (a b : Ty) {ls ms : List (List ℕ)} → SameLines ls ms → on_lines a b ls ≡ on_lines a b ms
lines_alike a b h = ap₂ (λ n x. cond (ltb max_clauses n) (fails (ceiling clause_line)) (on_list a b x)) (count_same h) (list_alike a b h)

abbrev on_many : Ty → Ty → Outcome (List ℕ) → Outcome (List ℕ)
on_many a b x = cond (ltb max_pairs (count a) || ltb max_pairs (count b)) (fails too_many) x

types_alike : (x y : Option Ty) {ls ms : List (List ℕ)} → SameLines ls ms → on_types x y ls ≡ on_types x y ms
types_alike none y h = refl
types_alike (some a) none h = refl
types_alike (some a) (some b) h = ap (on_many a b) (lines_alike a b h)

rows_alike : (rs : List Row) (i j : ℕ) (list other : List ℕ) → Resaved list other → import_rows rs i j list ≡ import_rows rs i j other
unfolding import_rows
rows_alike rs i j list other h = types_alike (get_elem? (types_of rs) i) (get_elem? (types_of rs) j) h

-- a list with other endings is imported alike, in every lent area
pub import_alike : (file t w : List ℕ) (i j : ℕ) (list other o : List ℕ) → Resaved list other → import_service file t w i j list o ≡ import_service file t w i j other o
unfolding import_service
import_alike file t w i j list other o h = go (unless (short t w || ltb (length o) import_length) (verdict file))
  where
    go : (v : Verdict) → output_by o (served v (import_on v i j list) t w) ≡ output_by o (served v (import_on v i j other) t w)
    go (accepted rs) = ap (λ x. output_by o (served (accepted rs) x t w)) (rows_alike rs i j list other h)
    go (refused f n) = refl
