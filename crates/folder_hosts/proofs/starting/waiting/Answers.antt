use Rattle.folder_hosts.proofs.starting.waiting.Goals as goal

pub returns-clause-waits : goal.returns-clause-waits
returns-clause-waits g c =
    (c.over.ensures, (c.in_ok-files.files.items, c.in_ok-files.ensures.listed, rw c.as_slice.ensures.value at c.in_ok-refuse_states.ensures))
