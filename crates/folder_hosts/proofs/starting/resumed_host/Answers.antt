use Rattle.std.proofs.Common.{inr, subst, sym}
use Rattle.folder_hosts.proofs.Begun.{all_begun_before}
use Rattle.hosts.specs.Starting.{CanStart}
use Rattle.folder_hosts.proofs.starting.resumed_host.Goals as goal

pub returns-in-Ok-clause-resumed : goal.returns-in-Ok-clause-resumed
returns-in-Ok-clause-resumed g c =
    let kept = rw c.over-opens.ensures at c.let_go.ensures.keeps in (
      c.in_ok-start.start,
      rw c.which_of.ensures at c.in_ok-start.ensures.found,
      (c.let_go.new.self.folder, (rw c.over-opens.ensures at c.let_go.ensures.gone).0),
      record {
        can = subst (λ m. CanStart m.1 c.args.places c.in_ok-start.start.head) (sym c.in-Ok.ensures.member) c.in-Ok.ensures.starts;
        number = c.in-Ok.ensures.number;
        stands = λ honest passed full behind.
            let it = c.in-Ok.ensures.stands honest passed full behind in
            (it.0, all_begun_before _ _ it.0 (λ e content. kept.begins e content) it.1, it.2);
      },
    )

pub returns-in-Ok-clause-begins : goal.returns-in-Ok-clause-begins
returns-in-Ok-clause-begins g c = λ e content it. (rw c.over-opens.ensures at c.let_go.ensures.keeps).begins e content (c.in-Ok.ensures.begins e content it)

pub returns-in-Err-NoState-default-clause-none : goal.returns-in-Err-NoState-default-clause-none
returns-in-Err-NoState-default-clause-none g c = inr (inr (c.in_ok-start.start, rw c.which_of.ensures at c.in_ok-start.ensures.found))

pub returns-in-Err-Node-default-clause-none : goal.returns-in-Err-Node-default-clause-none
returns-in-Err-Node-default-clause-none g c = inr (inr (c.in_ok-start.start, rw c.which_of.ensures at c.in_ok-start.ensures.found))
