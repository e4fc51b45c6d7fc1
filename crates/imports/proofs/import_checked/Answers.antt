use Rattle.imports.proofs.Types.{types_refused, types_passed}
use Rattle.imports.proofs.import_checked.Goals as goal

pub returns-then-is_refused : goal.returns-then-is_refused
returns-then-is_refused c =
    λ p l rs f room. let a = c.args in types_refused f a.i a.j a.list.now c.types_fault-f.result c.types_fault-f.ensures c.is_refused.ensures a.out.now c.if-is_refused.true
    c.not_filed.result c.not_filed.ensures.0 c.not_filed.ensures.1

pub returns : goal.returns
returns c =
    λ p l rs f room. let a = c.args in types_passed f a.i a.j a.list.now c.types_fault-f.result c.types_fault-f.ensures c.is_refused.ensures a.out.now c.if-is_refused.false
    c.import_list.ensures room
