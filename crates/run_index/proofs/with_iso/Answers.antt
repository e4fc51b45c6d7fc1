use Prim.Native.Nat.{◌-◌}
use native.Mathlib.Omega.{arith}
use Rattle.run_index.proofs.Indexing.{iso_room, iso_row}
use Rattle.run_index.proofs.Tails.{tail_two}
use Rattle.run_index.proofs.with_iso.Goals as goal
use Rattle.run_index.proofs.with_iso.Goals.{then-l-eq0-via-then-l-eq0, then-l-eq0-via-else-l-eq0+then-l-eq0-2}

pub returns-then-l-eq0-clause-kind_indexed : goal.returns-then-l-eq0-clause-kind_indexed
returns-then-l-eq0-clause-kind_indexed c
    = (λ t rs types patterns lines f h e s. let own = iso_room f h s e in let room
    = s.room in absurd (elim c.then-l-eq0.branch [ then-l-eq0-via-then-l-eq0 w ↦ omega arith | then-l-eq0-via-else-l-eq0+then-l-eq0-2 w ↦ omega arith ]))

pub returns-clause-kind_indexed : goal.returns-clause-kind_indexed
returns-clause-kind_indexed c = (λ t rs types patterns lines f h e s. iso_row f h s e c.narrow.ensures c.store.ensures c.narrow-2.ensures c.store-2.ensures)

pub returns-clause-tail_kept : goal.returns-clause-tail_kept
returns-clause-tail_kept c =
    λ x y. (
      tail_two c.args.index.now (c.args.l.first - 1) c.narrow.result (c.args.l.isos - 1) c.narrow-2.result (omega (arith, x)) c.store.ensures (omega (arith, y))
          c.store-2.ensures,
      omega (arith, x),
      omega (arith, y),
    )
