-- Request 06, "Files from the other editor": bytes without the carriage returns of their endings, and bytes that differ in the endings of their lines alone.
use Rattle.std.specs.Prelude.{ℕ, ◌≡◌, Bool, false, cond, ◌&&◌, ◌||◌, List, [], ◌∷◌, ◌++◌, leb, eqb, length}
use Rattle.std.proofs.Math.Option.{Option, none, some}
use Rattle.limits.specs.Limits.{line_feed, carriage_return, query_length}
use Rattle.calculus.specs.Tools.{concat}
use Rattle.format.specs.Lines.{lines, text}

-- whether these bytes begin with a line feed
abbrev pub feed_ahead : List ℕ → Bool
feed_ahead [] = false
feed_ahead (b ∷ bs) = eqb b line_feed

-- with the carriage returns of its endings taken out: each that stands directly before a line feed
abbrev pub feeds_alone : List ℕ → List ℕ
feeds_alone [] = []
feeds_alone (b ∷ bs) = cond (eqb b carriage_return && feed_ahead bs) (feeds_alone bs) (b ∷ feeds_alone bs)

-- whether a text ends in a carriage return: then a line feed alone cannot end it, since that carriage return would be part of the ending
abbrev pub ends_in_return : List ℕ → Bool
ends_in_return [] = false
ends_in_return (b ∷ []) = eqb b carriage_return
ends_in_return (b ∷ (c ∷ bs)) = ends_in_return (c ∷ bs)

-- a text and its ending: a carriage return and a line feed, or a line feed alone
abbrev pub with_ending : Bool → List ℕ → List ℕ
with_ending r t = t ++ cond (r || ends_in_return t) (carriage_return ∷ line_feed ∷ []) (line_feed ∷ [])

-- a line of this text with this ending; a line without a text, being without a line feed, as it was
abbrev pub line_with : Bool → List ℕ → Option (List ℕ) → List ℕ
line_with r l none = l
line_with r l (some t) = with_ending r t

-- for each line whether it gets a carriage return; the lines behind those keep their endings
abbrev pub resave_lines : List Bool → List (List ℕ) → List (List ℕ)
resave_lines [] ls = ls
resave_lines (r ∷ rs) [] = []
resave_lines (r ∷ rs) (l ∷ ls) = line_with r l (text l) ∷ resave_lines rs ls

-- "either ending on each line": the same bytes with other endings
abbrev pub resave : List Bool → List ℕ → List ℕ
resave rs bs = concat (resave_lines rs (lines bs))

-- the same line but for its ending
pub data SameLine (l m : List ℕ) : Type 0 where
  same : l ≡ m → SameLine l m
  ended : (t : List ℕ) → text l ≡ some t → text m ≡ some t → SameLine l m

pub data SameLines : List (List ℕ) → List (List ℕ) → Type 0 where
  done : SameLines [] []
  next : {l m : List ℕ} {ls ms : List (List ℕ)} → SameLine l m → SameLines ls ms → SameLines (l ∷ ls) (m ∷ ms)

-- the same bytes but for the endings of their lines
abbrev pub Resaved : List ℕ → List ℕ → Type 0
Resaved bs cs = SameLines (lines bs) (lines cs)

-- whether a query has at most 200 bytes, "both bytes of the ending" among them
abbrev pub fits : List ℕ → Bool
fits l = leb (length l) query_length
