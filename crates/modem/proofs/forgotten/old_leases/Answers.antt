use Rattle.std.proofs.Common.{arith}
use Rattle.modem.proofs.Recent.{recent_alike, serve_alike}
use Rattle.modem.specs.State.{recent}
use Rattle.modem.proofs.forgotten.old_leases.Goals as goal

pub returns : goal.returns
returns c = λ ch clock leases. serve_alike ch clock (recent ch clock leases) leases (recent_alike leases ch clock ch clock (λ same. omega arith))
