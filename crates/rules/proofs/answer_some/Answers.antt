use Rattle.rules.proofs.Going.{reached_input}
use Rattle.rules.proofs.answer_some.Goals as goal

pub returns : goal.returns
returns c =
    reached_input c.read_some-i.result c.read_some-i.new.area c.answer_input.result c.requires
    (record {
      file = c.answer_input.auto.file;
      line = c.answer_input.auto.line;
      table = c.answer_input.auto.table;
      work = c.answer_input.auto.work;
      index =
          c.answer_input.auto.index;
      out = c.answer_input.auto.out;
    }) c.answer_input.ensures
