-- What a read's answer means.
use Rattle.std.specs.Prelude.{ℕ, ◌+◌, ◌^◌, ◌≤◌, ◌<◌, min, Bool, false, cond, ltb, eqb, ℤ, pos, negsuc, Option, None, Some, Result, Ok, Err}
use Rattle.std.proofs.Common.{ControlFlow, Continue, Break}
use Rattle.std.specs.IoError.{raw_os_error}
use Rattle.std.specs.declared.io.Error.{Error}
use Rattle.stdio.specs.declared.Input as I
use Rattle.stdio.specs.declared.Input.TheVariants as inputs

-- EINTR, by the error's number
abbrev pub is_interrupt : ℤ → Bool
is_interrupt (pos k) = eqb k 4
is_interrupt (negsuc k) = false

-- the same by std's error, which has a number where the system answered it
abbrev pub interrupt_number : Option ℤ → Bool
interrupt_number (Some z) = is_interrupt z
interrupt_number None = false

abbrev pub was_interrupt : Error → Bool
was_interrupt e = interrupt_number (raw_os_error e)

-- what std answers as the number that the system's read answers: so many bytes, or below 0 where it failed
abbrev pub answer_of : Result ℕ Error → ℤ
answer_of (Ok n) = pos n
answer_of (Err e) = negsuc 0

-- whether a signal interrupted it
abbrev pub signal_of : Result ℕ Error → Bool
signal_of (Ok n) = false
signal_of (Err e) = was_interrupt e

-- by the answer of a read into n bytes, and by whether a signal interrupted it: only 0 is the end of the input
abbrev pub input_of : ℤ → Bool → ℕ → I.Input
input_of (pos k) interrupted n = cond (ltb 0 k) (inputs.Bytes (min k n)) inputs.End
input_of (negsuc k) interrupted n = cond interrupted inputs.Again inputs.Failed

-- the bytes that came, in one read or in all, lie within an area of n
abbrev pub Within : ℕ → I.Input → Type 0
Within n (inputs.Bytes k) = k ≤ n
Within n inputs.Again = Unit {0}
Within n inputs.End = Unit {0}
Within n inputs.Failed = Unit {0}

abbrev pub Fits : ℕ → Option ℕ → Type 0
Fits n (Some k) = k ≤ n
Fits n None = Unit {0}

abbrev pub Stays : ℕ → ControlFlow (Option ℕ) ℕ → Type 0
Stays n (Continue k) = k ≤ n
Stays n (Break f) = Fits n f

-- behind the first `done` bytes of an area: more bytes are added to them, a signal changes nothing, the end leaves them, and after a read that failed there is nothing
abbrev pub step_of : ℕ → I.Input → ControlFlow (Option ℕ) ℕ
step_of done (inputs.Bytes n) = Continue (done + n)
step_of done inputs.Again = Continue done
step_of done inputs.End = Break (Some done)
step_of done inputs.Failed = Break None

-- the bytes in all are a number of 64 bits
abbrev pub Room : ℕ → I.Input → Type 0
Room done (inputs.Bytes n) = done + n < 2 ^ 64
Room done inputs.Again = Unit {0}
Room done inputs.End = Unit {0}
Room done inputs.Failed = Unit {0}
