use Rattle.print_text.proofs.Written.{number_small, number_large}
use Rattle.print_text.proofs.+put_number.Goals as goal

pub returns-then-n-lt10 : goal.returns-then-n-lt10
returns-then-n-lt10 t c = λ f. number_small c.args.n c.if-n-lt10.true c.digit.ensures c.put_byte.ensures.bytes_after c.put_byte.ensures.value

pub returns : goal.returns
returns t c = λ f. number_large c.args.n c.if-n-lt10.false f c.put_number-next.ensures c.digit-2.ensures c.put_byte-2.ensures.bytes_after c.put_byte-2.ensures.value
