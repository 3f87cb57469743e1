use Rattle.std.proofs.Common.{◌≡◌, ◌++◌, take}
use Rattle.trace.specs.Followed.{sent_about}
use Rattle.trace.proofs.sent.add_sent.Given as goal

abbrev pub invariant-loop-message : goal.invariant-loop-message
invariant-loop-message l = l.sent.items ≡ l.fn.sent.items ++ sent_about l.id (take l.message-index l.posted)
