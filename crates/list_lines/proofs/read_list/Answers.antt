use Rattle.list_lines.proofs.Reading.{froms_differ, tos_differ, list_read}
use Rattle.list_lines.proofs.read_list.Goals as goal

pub returns-then-n-froms : goal.returns-then-n-froms
returns-then-n-froms c = (λ a b f g n l m. froms_differ a b _ c.if-n-froms.true f n)

pub returns-then-n-most : goal.returns-then-n-most
returns-then-n-most c = (λ a b f g n l m. tos_differ a b _ c.if-n-most.true g n)

pub returns : goal.returns
returns c = (λ a b. list_read a b _ c.args.tos.now c.read_tos.new.tos c.read_tos.result c.if-n-froms.false c.if-n-most.false c.read_tos.ensures)
