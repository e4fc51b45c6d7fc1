-- Which application comes next in the reduction of Table 3.
use Rattle.std.specs.Prelude.{ℕ, ◌≡◌}
use Rattle.calculus.specs.Trees.{Tag, Node, Pat, Val}
use Rattle.calculus.specs.Terms.{Term, einj, enode, eapp, elet, val_term}

-- Of a term, the application that IsoApp takes next: iso j gets the closed value w in an applicative context C[-] (section 3.2; `Terms.Step`
-- has the same contexts).
pub data Next (j : ℕ) (w : Val) : Term → Type 0 where
  here : {i : ℕ} {t : Term} → i ≡ j → t ≡ val_term w → Next j w (eapp i t)
  in_inj : {s : Tag} {t : Term} → Next j w t → Next j w (einj s t)
  in_fst : {m : Node} {t u : Term} (v : Val) → u ≡ val_term v → Next j w t → Next j w (enode m t u)
  in_snd : {m : Node} {t u : Term} (v : Val) → t ≡ val_term v → Next j w u → Next j w (enode m t u)
  in_app : {i : ℕ} {t : Term} → Next j w t → Next j w (eapp i t)
  in_let : {p : Pat} {t u : Term} → Next j w t → Next j w (elet p t u)
