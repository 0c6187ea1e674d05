use Rattle.folder_hosts.proofs.Begun.{all_begun_before, begun_before}
use Rattle.folder_hosts.proofs.starting.new_host.Goals as goal

pub returns-in-Ok-clause-begins : goal.returns-in-Ok-clause-begins
returns-in-Ok-clause-begins g c = λ e content it.
    begun_before g.D.Store.WriteStore g.D.Databases.member g.D.Databases.begins c.args.databases c.begin.new.self.databases (rw c.over-opens.ensures at c.in_ok-begin.ensures.keeps) e content
    (c.in-Ok.ensures.begins e content it)

pub returns-in-Ok-clause-stands : goal.returns-in-Ok-clause-stands
returns-in-Ok-clause-stands g c = λ honest.
    let it = c.in-Ok.ensures.opens honest in (
      it.0,
      all_begun_before 1 2 it.0 (begun_before g.D.Store.WriteStore g.D.Databases.member g.D.Databases.begins c.args.databases c.begin.new.self.databases (rw c.over-opens.ensures at c.in_ok-begin.ensures.keeps)) it.1,
      it.2,
    )
