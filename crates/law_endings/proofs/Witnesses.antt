-- Request 09 for files with other endings: the setting that shows the fault is the same, and so is every lent area.
use Prim.Native.Nat.{ℕ, ◌≤◌}
use mathlib.Core.Path.{◌≡◌, sym, ap, ap₂, ◌∙◌}
use mathlib.Core.Bool.{Bool, cond, ◌||◌}
use mathlib.Core.List.{List, []}
use lib.Dec.{ltb}
use lib.ListN.{length}
use Rattle.limits.specs.Limits.{max_bytes, max_lines, result_length}
use Rattle.format.specs.Judge.{start}
use Rattle.model.specs.Services.{Verdict, over, answer_of, refusal_by, table_after, work_after, short, unless, written}
use Rattle.calculus.proofs.Basic.{not_ltb}
use Rattle.law_witnesses.specs.Showing.{Shown, shown_of, showing, measured, show_service}
use Rattle.law_endings.specs.Resaved.{Resaved}
use Rattle.law_endings.proofs.Lines.{read_same, count_same}
use Rattle.law_endings.proofs.Alike.{verdict_alike}

showing_alike : (bs cs : List ℕ) → Resaved bs cs → length bs ≤ max_bytes → length cs ≤ max_bytes → showing bs ≡ showing cs
unfolding showing over
showing_alike bs cs h m n =
    ap₂ (λ b r. cond b [] (shown_of r)) (ap₂ ◌||◌ (not_ltb m ∙ sym (not_ltb n)) (ap (ltb max_lines) (count_same h))) (read_same start 1 h)

pub witness_alike : (bs cs table work result : List ℕ) → Resaved bs cs → length bs ≤ max_bytes → length cs ≤ max_bytes
    → show_service bs table work result ≡ show_service cs table work result
unfolding show_service
witness_alike bs cs table work result h m n = ap₂ served (verdict_alike bs cs h m n) (showing_alike bs cs h m n)
  where
    served : Verdict → List ℕ → Shown
    served u shown =
        let s : Bool = short table work || ltb (length result) result_length in
        let v : Verdict = unless s (measured u shown) in
        let ls : List ℕ = cond s [] shown in
        record { refusal = refusal_by v; answer = answer_of v; length = length ls; table = table_after v table; work = work_after v work; result = written ls result }
