-- The numbers of answers are small. Assumes nothing.
use Prim.Native.Nat.{◌≤◌}
use native.Mathlib.Omega.{arith}
use Rattle.transfer.specs.Transfer.{number_of}
use Rattle.transfer.specs.declared.Answer.{Answer}
use Rattle.transfer.specs.declared.Answer.TheVariants.{BadBuffers, BadSettings, BadState, NotBlock, Container, NoFamily, NoPlace, BadPayload, BadNumbers, BadAddress, Finished, Again, Written, Completed, Noted, Kept}

-- the numbers fit five bits, and leave room for 128 more in a byte
pub number_most : (a : Answer) → number_of a ≤ 31
number_most BadBuffers = omega arith
number_most BadSettings = omega arith
number_most BadState = omega arith
number_most NotBlock = omega arith
number_most Container = omega arith
number_most NoFamily = omega arith
number_most NoPlace = omega arith
number_most BadPayload = omega arith
number_most BadNumbers = omega arith
number_most BadAddress = omega arith
number_most Finished = omega arith
number_most Again = omega arith
number_most Written = omega arith
number_most Completed = omega arith
number_most Noted = omega arith
number_most Kept = omega arith
