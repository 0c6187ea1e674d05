use Rattle.std.proofs.Common.{◌≡◌, ◌+◌, ◌-◌, arith, rules, subst}
use Rattle.std.specs.Prelude.{◌↔◌, Contains, IsTrue}
use Rattle.stored_hosts.specs.Committing.{file_of}
use Rattle.stored_hosts.specs.declared.names.FileKind.TheVariants.{Database}
use Rattle.stored_hosts.proofs.Finds.{counts_of}
use Rattle.stored_hosts.proofs.finding.find.Goals as goal

pub returns : goal.returns
returns c =
    let before : c.saturating_sub.result + 0 ≡ c.in-Some.head.epoch - 1 = search (rules, arith) in (
      counts_of c.args.states.now c.in_ok-head.field-0 c.in-Some.head c.in-Some.machine c.in-Some.is c.in_ok-head.ensures.best,
      c.in_default-other_host.ensures,
      c.in_default-first_lacking.ensures,
      subst (λ n. IsTrue c.has_database-has_before.result ↔ Contains c.args.files.now (file_of n Database)) before c.has_database-has_before.ensures,
    )
