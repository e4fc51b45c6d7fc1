-- Request 02, "Settings as numbers": the closed values of a type numbered from 0, and what the two services answer and leave in every lent area.
use Rattle.std.specs.Prelude.{ℕ, ◌+◌, ◌-◌, ◌*◌, ◌/◌, ◌%◌, suc, Bool, true, false, cond, ◌||◌, List, [], ◌∷◌, ltb, eqb, length}
use Rattle.std.proofs.Math.Option.{Option, none, some}
use Rattle.std.proofs.Math.ListN.{get_elem?}
use Rattle.limits.specs.Limits.{result_length, max_values}
use Rattle.calculus.specs.Trees.{Ty, tunit, tsum, tprod, Tag, left, right, Val, vinj, part, tlist, unit_leaf, empty_leaf, pair_node, vleaf, vnode}
use Rattle.calculus.specs.Refusals.{Refusal, no_iso, no_value, too_many, too_high}
use Rattle.format.specs.Lines.{Row}
use Rattle.format.specs.Judge.{start, after_all}
use Rattle.calculus.specs.Letters.{letters, value_of}
use Rattle.model.specs.Services.{Verdict, verdict, value_in, written, short, Outcome, gives, fails, go_on, refusal_of, refusal_number, bytes_from, Served, serve}

-- how many closed values a type has; a list has more than are numbered, and so has every type that holds one (request 14)
abbrev pub count : Ty → ℕ
count tunit = 1
count (tlist a) = suc max_values
count (tsum a b) = count a + count b
count (tprod a b) = count a * count b

-- "left keeps its number; right adds the left type's count of values"
abbrev pub offset : Tag → Ty → ℕ
offset left a = 0
offset right a = count a

-- "Unit is 0; …; a pair is first times the second type's count, plus second." A value of another type has no number; 0 stands there.
abbrev pub rank : Val → Ty → ℕ
rank (vleaf l) a = 0
rank (vinj t v) tunit = 0
rank (vinj t v) (tlist a) = 0
rank (vinj t v) (tsum a b) = offset t a + rank v (part t a b)
rank (vinj t v) (tprod a b) = 0
rank (vnode k v w) tunit = 0
rank (vnode k v w) (tlist a) = 0
rank (vnode k v w) (tsum a b) = 0
rank (vnode k v w) (tprod a b) = rank v a * count b + rank w b

-- the value of a type that has a number
abbrev pub unrank : Ty → ℕ → Val
unrank tunit n = vleaf unit_leaf
unrank (tlist a) n = vleaf empty_leaf
unrank (tsum a b) n = cond (ltb n (count a)) (vinj left (unrank a n)) (vinj right (unrank b (n - count a)))
unrank (tprod a b) n = vnode pair_node (unrank a (n / count b)) (unrank b (n % count b))

-- "in byte order": whether letters stand before others
abbrev pub before : List ℕ → List ℕ → Bool
before [] [] = false
before [] (c ∷ cs) = true
before (b ∷ bs) [] = false
before (b ∷ bs) (c ∷ cs) = ltb b c || cond (eqb b c) (before bs cs) false

-- ---- the services

-- the types of a file's T lines, numbered from 0
unfoldable pub types_of : List Row → List Ty
unfolding start
types_of rs = (after_all start rs).types

-- "An absent T line is 15. … 18 …, a count above 4,294,967,295 …, after 15"
abbrev pub on_type : {A : Type 0} → Option Ty → (Ty → Outcome A) → Outcome A
on_type none f = fails no_iso
on_type (some a) f = cond (ltb max_values (count a)) (fails too_many) (f a)

-- 16, "not exactly one closed value" of the type, after 18
abbrev pub number_in : Ty → Option Val → Outcome ℕ
number_in a none = fails no_value
number_in a (some v) = gives (rank v a)

abbrev pub to_number : List ℕ → Ty → Outcome ℕ
to_number ls a = number_in a (value_in ls a)

-- "19 …, not below the count, after 18"
abbrev pub to_setting : ℕ → Ty → Outcome (List ℕ)
to_setting n a = cond (ltb n (count a)) (gives (letters (unrank a n))) (fails too_high)

-- "for any T line of an accepted file"
abbrev pub number_rows : ℕ → List ℕ → List Row → Outcome ℕ
number_rows i ls rs = on_type (get_elem? (types_of rs) i) (to_number ls)

abbrev pub setting_rows : ℕ → ℕ → List Row → Outcome (List ℕ)
setting_rows i n rs = on_type (get_elem? (types_of rs) i) (to_setting n)

abbrev pub number_on : Verdict → ℕ → List ℕ → Outcome ℕ
number_on v i ls = go_on v (number_rows i ls)

abbrev pub setting_on : Verdict → ℕ → ℕ → Outcome (List ℕ)
setting_on v i n = go_on v (setting_rows i n)

-- "With a refusal the setting number is 0"
abbrev pub number_from : Outcome ℕ → ℕ
number_from (gives n) = n
number_from (fails f) = 0

-- letters to number
pub record Numbered : Type 0 where
  pub refusal : Option Refusal
  pub number : ℕ
  pub setting : ℕ
  pub table : List ℕ
  pub work : List ℕ

abbrev pub numbered_by : Served ℕ → Numbered
numbered_by s =
    record {
      refusal = refusal_of s.outcome;
      number = refusal_number s.outcome;
      setting = number_from s.outcome;
      table = s.table;
      work = s.work;
    }

abbrev pub number_served : List ℕ → List ℕ → List ℕ → ℕ → List ℕ → Served ℕ
number_served file table work i value = serve (short table work) (verdict file) (number_rows i value) table work

unfoldable pub number_service : List ℕ → List ℕ → List ℕ → ℕ → List ℕ → Numbered
unfolding verdict types_of value_of
number_service file table work i value = numbered_by (number_served file table work i value)

-- number to letters, "letters written into 127 lent bytes"
pub record Lettered : Type 0 where
  pub refusal : Option Refusal
  pub number : ℕ
  pub length : ℕ
  pub table : List ℕ
  pub work : List ℕ
  pub result : List ℕ

abbrev pub lettered_by : List ℕ → Served (List ℕ) → Lettered
lettered_by result s =
    let ls : List ℕ = bytes_from s.outcome in
    record {
      refusal = refusal_of s.outcome;
      number = refusal_number s.outcome;
      length = length ls;
      table = s.table;
      work = s.work;
      result = written ls result;
    }

abbrev pub setting_served : List ℕ → List ℕ → List ℕ → ℕ → ℕ → List ℕ → Served (List ℕ)
setting_served file table work i n result =
    serve (short table work || ltb (length result) result_length) (verdict file) (setting_rows i n) table work

unfoldable pub setting_service : List ℕ → List ℕ → List ℕ → ℕ → ℕ → List ℕ → Lettered
unfolding verdict types_of
setting_service file table work i n result = lettered_by result (setting_served file table work i n result)
