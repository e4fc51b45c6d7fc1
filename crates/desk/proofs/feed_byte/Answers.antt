use Rattle.desk.proofs.Feeding.{file_begins, file_more, byte_of_file}
use Rattle.desk.proofs.feed_byte.Goals as goal

pub returns-then-begins : goal.returns-then-begins
returns-then-begins c =
    byte_of_file c.args.d c.args.b c.in-File.is (λ bs h roomy room. file_begins c.args.d c.args.b bs h c.begins.ensures c.if-begins.true (c.begin.ensures roomy room))

pub returns-else-begins : goal.returns-else-begins
returns-else-begins c =
    byte_of_file c.args.d c.args.b c.in-File.is (λ bs h roomy room. file_more c.args.d c.args.b bs h c.begins.ensures c.if-begins.false (λ x. c.file_byte.ensures bs _ _ _ _ x roomy.files room))
