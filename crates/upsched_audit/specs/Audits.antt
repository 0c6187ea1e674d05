-- What `audit` takes, and what it says.
use Rattle.std.specs.Prelude.{◌≡◌, ℕ, ◌+◌, Bool, if◌then◌else◌, List, [], ◌∷◌, ◌++◌, IfSome, Option, codes, decimal}
use Rattle.std.specs.Prelude.{map, slice_get, unwrap_or}
use Rattle.std.specs.Borrow.{Bor}
use Rattle.ballots.specs.Members.{member_count}
use Rattle.ballots.specs.declared.members.Members.{Members}
use Rattle.node_journal.specs.Counts.{lines_in, lives_in}
use Rattle.node_journal.specs.declared.audits.Verdict.{Verdict}
use Rattle.node_journal.specs.declared.audits.Verdict.TheVariants.{Yes, Torn}
use Rattle.node_journal.specs.declared.tear.Tear.{Tear}
use Rattle.node_journal.specs.declared.tear.Why.{Why}
use Rattle.node_journal.specs.declared.tear.Why.TheVariants.{OtherReply, Unsent, NoLine}
use Rattle.upsched_ends.specs.declared.status.Status.{Status}
use Rattle.upsched_ends.specs.declared.status.Status.TheVariants.{Done, Faulted}
use Rattle.upsched_ends.specs.Members.{NamesMembers}

-- a word says how many members there are, and there is a journal for each
abbrev pub NamesJournals : List ℕ → ℕ → Members → Type 0
NamesJournals word journals members = NamesMembers word members × (journals ≡ member_count members)

-- the journals are all that the files had left, one after another
abbrev pub AreHeld : {F : Type 0} → (F → Option (List ℕ)) → List F → List (List ℕ) → Type 0
AreHeld remaining [] [] = Unit {0}
AreHeld remaining (file ∷ files) (journal ∷ journals) = IfSome (remaining file) (λ bytes. journal ≡ bytes) × AreHeld remaining files journals
AreHeld remaining files journals = ⊥

-- the path of a node's journal
abbrev pub path_of : List (Bor (List ℕ)) → ℕ → List ℕ
path_of paths node = unwrap_or (slice_get (map (λ path. path.now) paths) node) []

-- why a journal is torn, in words
abbrev pub why_text : List (Bor (List ℕ)) → Why → List ℕ
why_text paths OtherReply = codes ": the reply isn't what this line gives" ++ 10 ∷ []
why_text paths (Unsent node) = codes ": a letter of node " ++ (decimal node ++ (codes " that " ++ (path_of paths node ++ (codes " doesn't send" ++ 10 ∷ []))))
why_text paths NoLine = codes ": no line of a journal" ++ 10 ∷ []

-- the line that says it, by the path of the journal
abbrev pub why_line : List (Bor (List ℕ)) → Tear → List ℕ
why_line paths tear = path_of paths tear.journal ++ (codes ": line " ++ (decimal tear.line ++ why_text paths tear.why))

-- the line of where the journals are torn
abbrev pub torn_line : Tear → List ℕ
torn_line tear = codes "audit torn " ++ (decimal tear.journal ++ (codes " " ++ (decimal tear.line ++ 10 ∷ [])))

-- the lines of what an audit found: a yes, or where the journals are torn, and why
abbrev pub verdict_lines : List (Bor (List ℕ)) → Verdict → List ℕ
verdict_lines paths Yes = codes "audit yes" ++ 10 ∷ []
verdict_lines paths (Torn tear) = torn_line tear ++ why_line paths tear

-- how many lives and lines the journal of a node holds
abbrev pub counts_line : ℕ → List ℕ → List ℕ
counts_line node journal = codes "journal " ++ (decimal node ++ (codes " lives " ++ (decimal (lives_in journal) ++ (codes " lines " ++ (decimal (lines_in journal) ++ 10 ∷ [])))))

-- a line for each node from one on
abbrev pub counts_lines : ℕ → List (List ℕ) → List ℕ
counts_lines node [] = []
counts_lines node (journal ∷ journals) = counts_line node journal ++ counts_lines (node + 1) journals

-- all that is printed, the counts where they are asked for
abbrev pub audit_lines : List (Bor (List ℕ)) → Bool → List (List ℕ) → Verdict → List ℕ
audit_lines paths counts journals verdict = verdict_lines paths verdict ++ (if counts then counts_lines 0 journals else [])

-- how the program ends with it
abbrev pub verdict_status : Verdict → Status
verdict_status Yes = Done
verdict_status (Torn tear) = Faulted
