use Rattle.std.proofs.Common.{◌≡◌, ℕ, List, length}
use Rattle.std.specs.declared.net.tcp.TcpStream.{TcpStream}
use Rattle.connections.specs.Waiting.{WereLate}
use Rattle.connections.specs.declared.waiting.Waiter.{Waiter}
use Rattle.connections.proofs.held.Held.end_late.Given as goal

abbrev pub invariant-loop : goal.invariant-loop
invariant-loop l =
    (gone : List (ℕ × Waiter TcpStream))
    × WereLate l.now gone l.fn.self.connections.waiting.entries l.self.connections.waiting.entries
    × (length gone ≡ l.counter)
