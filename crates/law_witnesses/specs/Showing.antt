-- Request 09, "A setting that shows the fault": the value with the fewest letters, the first in byte order among those, that two or more
-- patterns of a side match (11, 12), or none (13, 14); and what the service answers and leaves in every lent area.
use Rattle.std.specs.Prelude.{ℕ, zero, suc, ◌<◌, ◌≡◌, Bool, false, cond, ◌&&◌, ◌||◌, leb, ltb, eqb, length}
use Rattle.std.proofs.Math.Option.{Option, none, some}
use mathlib.Core.List.{List, [], ◌∷◌, ◌++◌, map, Memᴰ}
use Rattle.limits.specs.Limits.{result_length}
use Rattle.calculus.specs.Tools.{concat, first_of}
use Rattle.calculus.specs.Trees.{Ty, tunit, tlist, tsum, tprod, Leaf, unit_leaf, empty_leaf, Tag, left, right, Node, pair_node, element_node, Pat, Val, vleaf, vinj, vnode, Iso}
use Rattle.calculus.specs.Refusals.{Refusal, number, iso_line, overlap, gap, too_large}
use Rattle.format.specs.Lines.{lines}
use Rattle.format.specs.Judge.{start, judge, Reading, rows, faulty, read_from}
use Rattle.format.specs.Unfold.{isos_of}
use Rattle.format.specs.Idle.{idle_fault}
use Rattle.calculus.specs.Clauses.{Sigs, sigs_of, lefts, rights, iso_fault}
use Rattle.calculus.specs.Letters.{leaf_letter, letter_of, node_letter, letters}
use Rattle.model.specs.Services.{Answer, Verdict, accepted, refused, over, verdict, answer_of, refusal_by, table_after, work_after, short, unless, written}
use Rattle.law_ranking.specs.Numbering.{before}
use Rattle.calculus.specs.Paper.{Of, Matched}
use Rattle.calculus.specs.Hits.{hits}

-- ---- what a reader must believe

-- "with the fewest letters, the first in byte order among those"
abbrev pub sooner : List ℕ → List ℕ → Bool
sooner v w = ltb (length v) (length w) || cond (eqb (length v) (length w)) (before v w) false

-- the value of the type that comes first among those of which F holds
pub record Least (a : Ty) (F : Val → Type 0) (v : Val) : Type 0 where
  pub of : Of v a
  pub shows : F v
  pub first : (w : Val) → Of w a → F w → sooner (letters w) (letters v) ≡ false

-- "matched by two or more patterns": by two that stand at different places of the side
pub data Twice : List Pat → Val → Type 0 where
  here : {p : Pat} {ps : List Pat} {v : Val} (q : Pat) → Matched p v → Memᴰ q ps → Matched q v → Twice (p ∷ ps) v
  there : {p : Pat} {ps : List Pat} {v : Val} → Twice ps v → Twice (p ∷ ps) v

-- "or by none"
abbrev pub Never : List Pat → Val → Type 0
Never ps v = (p : Pat) → Memᴰ p ps → Matched p v → ⊥

-- "for the iso and side refused": what is given with refusals 11 to 14 of an iso of the file
pub data Shows (os : List Iso) (n : ℕ) (ls : List ℕ) : Refusal → Type 0 where
  overlap_left : (o : Iso) (v : Val) → Memᴰ o os → n ≡ o.line → Least o.from (Twice (lefts o)) v → ls ≡ letters v → Shows os n ls (overlap iso_line left)
  overlap_right : (o : Iso) (v : Val) → Memᴰ o os → n ≡ o.line → Least o.to (Twice (rights o)) v → ls ≡ letters v → Shows os n ls (overlap iso_line right)
  gap_left : (o : Iso) (v : Val) → Memᴰ o os → n ≡ o.line → Least o.from (Never (lefts o)) v → ls ≡ letters v → Shows os n ls (gap iso_line left)
  gap_right : (o : Iso) (v : Val) → Memᴰ o os → n ≡ o.line → Least o.to (Never (rights o)) v → ls ≡ letters v → Shows os n ls (gap iso_line right)

-- "when the smallest value is over 127 letters": there is one of which F holds, and each has more
pub record Large (a : Ty) (F : Val → Type 0) : Type 0 where
  pub value : Val
  pub of : Of value a
  pub shows : F value
  pub longer : (w : Val) → Of w a → F w → result_length < length (letters w)

-- 24: refusals 11 to 14 of an iso of the file whose fault no value of at most 127 letters shows
pub data TooLarge (os : List Iso) (n : ℕ) : Refusal → Type 0 where
  overlap_left : (o : Iso) → Memᴰ o os → n ≡ o.line → Large o.from (Twice (lefts o)) → TooLarge os n (overlap iso_line left)
  overlap_right : (o : Iso) → Memᴰ o os → n ≡ o.line → Large o.to (Twice (rights o)) → TooLarge os n (overlap iso_line right)
  gap_left : (o : Iso) → Memᴰ o os → n ≡ o.line → Large o.from (Never (lefts o)) → TooLarge os n (gap iso_line left)
  gap_right : (o : Iso) → Memᴰ o os → n ≡ o.line → Large o.to (Never (rights o)) → TooLarge os n (gap iso_line right)

-- ---- the same as functions

-- What one letter does: it ends a unit or a list, puts a tag before a value, makes a pair of two or puts one before a list.
pub data Move : Type 0 where
  leaf : Leaf → Move
  tag : Tag → Move
  node : Node → Move

abbrev pub letter_on : Move → ℕ
letter_on (leaf l) = leaf_letter l
letter_on (tag t) = letter_of t
letter_on (node k) = node_letter k

-- the letters that a closed value of a type can begin with, in byte order, each with the types of the values that follow it
abbrev pub moves : Ty → List (Move × List Ty)
moves tunit = (leaf unit_leaf, []) ∷ []
moves (tlist a) = (node element_node, a ∷ (tlist a ∷ [])) ∷ ((leaf empty_leaf, []) ∷ [])
moves (tsum a b) = (tag left, a ∷ []) ∷ ((tag right, b ∷ []) ∷ [])
moves (tprod a b) = (node pair_node, a ∷ (b ∷ [])) ∷ []

-- the values after a letter, with it
abbrev pub made : Move → List Val → List Val
made (leaf l) vs = vleaf l ∷ vs
made (tag t) [] = []
made (tag t) (v ∷ vs) = vinj t v ∷ vs
made (node k) [] = []
made (node k) (v ∷ []) = []
made (node k) (v ∷ (w ∷ vs)) = vnode k v w ∷ vs

-- closed values side by side, one for each type of the list, with n letters in all; in byte order
abbrev pub spelled : ℕ → List Ty → List (List Val)
spelled zero [] = [] ∷ []
spelled zero (a ∷ ts) = []
spelled (suc n) [] = []
spelled (suc n) (a ∷ ts) = concat (map (λ m. map (made m.0) (spelled n (m.1 ++ ts))) (moves a))

abbrev pub the : List Val → Val
the [] = vleaf unit_leaf
the (v ∷ vs) = v

-- the closed values of a type with n letters, in byte order
abbrev pub values_with : ℕ → Ty → List Val
values_with n a = map the (spelled n (a ∷ []))

abbrev pub find : {A : Type 0} → (A → Bool) → List A → Option A
find f [] = none
find f (x ∷ xs) = cond (f x) (some x) (find f xs)

-- n numbers from k on
abbrev pub count_up : ℕ → ℕ → List ℕ
count_up zero k = []
count_up (suc n) k = k ∷ count_up n (suc k)

-- the first closed value of at most 127 letters that passes a test
unfoldable pub setting : Ty → (Val → Bool) → Option Val
setting a f = first_of (λ n. find f (values_with n a)) (count_up (suc result_length) 0)

abbrev pub twice : List Pat → Val → Bool
twice ps v = ltb 1 (hits ps v)

abbrev pub never : List Pat → Val → Bool
never ps v = eqb (hits ps v) 0

-- ---- the service

-- "With refusals 11 to 14"
abbrev pub sided : Refusal → Bool
sided f = leb 11 (number f) && leb (number f) 14

-- "for the iso and side refused", by the refusal's number
abbrev pub shown_by : ℕ → Iso → Option Val
shown_by n o =
    cond (eqb n 11) (setting o.from (twice (lefts o)))
    (cond (eqb n 12) (setting o.to (twice (rights o)))
    (cond (eqb n 13) (setting o.from (never (lefts o)))
    (cond (eqb n 14) (setting o.to (never (rights o))) none)))

abbrev pub shown : Refusal → Iso → Option Val
shown f o = shown_by (number f) o

-- the first iso with a fault, as `fault` finds it
abbrev pub shown_or : Iso → Option (Refusal × ℕ) → Option Val → Option Val
shown_or o none x = x
shown_or o (some f) x = shown f.0 o

abbrev pub shown_first : Sigs → ℕ → List Iso → Option Val
shown_first sigs i [] = none
shown_first sigs i (o ∷ os) = shown_or o (iso_fault sigs i o) (shown_first sigs (suc i) os)

abbrev pub letters_of? : Option Val → List ℕ
letters_of? none = []
letters_of? (some v) = letters v

-- request 11: a file with an idle line is refused before its isos are judged
abbrev pub shown_unless : Option (Refusal × ℕ) → List ℕ → List ℕ
shown_unless none ls = ls
shown_unless (some f) ls = []

abbrev pub shown_of : Reading → List ℕ
shown_of (faulty f n) = []
shown_of (rows rs) = shown_unless (idle_fault rs) (letters_of? (shown_first (sigs_of (isos_of rs)) 0 (isos_of rs)))

-- the letters that a file's bytes are answered with, none where no value is given
unfoldable pub showing : List ℕ → List ℕ
unfolding over start judge idle_fault isos_of iso_fault setting
showing bs = cond (over bs) [] (shown_of (read_from start 1 (lines bs)))

pub record Shown : Type 0 where
  pub refusal : Option Refusal
  pub answer : Answer
  pub length : ℕ
  pub table : List ℕ
  pub work : List ℕ
  pub result : List ℕ

-- 24, "in Req 09 when the smallest value is over 127 letters": a side is refused, and no letters are given
abbrev pub measured : Verdict → List ℕ → Verdict
measured (accepted rs) ls = accepted rs
measured (refused f n) [] = cond (sided f) (refused too_large 0) (refused f n)
measured (refused f n) (l ∷ ls) = refused f n

-- "answers as Check does"; "for other answers no value is given and the bytes stay unchanged"
unfoldable pub show_service : List ℕ → List ℕ → List ℕ → List ℕ → Shown
unfolding verdict showing
show_service file table work result =
    let s : Bool = short table work || ltb (length result) result_length in
    let v : Verdict = unless s (measured (verdict file) (showing file)) in
    let ls : List ℕ = cond s [] (showing file) in
    record {
      refusal = refusal_by v;
      answer = answer_of v;
      length = length ls;
      table = table_after v table;
      work = work_after v work;
      result = written ls result;
    }
