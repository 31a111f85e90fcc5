use Rattle.std.proofs.Common.{◌-◌, length}
use Rattle.inspect.proofs.inspect.Given as goal

abbrev pub decreases-items : goal.decreases-items
decreases-items l = length l.book.bytes.now - l.book.place
