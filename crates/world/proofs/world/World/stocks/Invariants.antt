use Rattle.std.proofs.Common.{take}
use Rattle.world.specs.Stocks.{AreStocks}
use Rattle.world.proofs.world.World.stocks.Given as goal

abbrev pub invariant-loop-member : goal.invariant-loop-member
invariant-loop-member l = AreStocks l.fn.self (take l.member-index l.member-items) l.stocks.items
