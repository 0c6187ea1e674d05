-- The exact text of each reply of a host, with its lines' ends.
use Rattle.std.specs.Prelude.{ℕ, List, [], ◌∷◌, ◌++◌, length, codes, decimal}
use Rattle.std.specs.List.{flat_map}
use Rattle.hex.specs.Hex.{encode_lower}
use Rattle.ballots.specs.Members.{member_count}
use Rattle.ballots.specs.declared.letters.Letter.{Letter}
use Rattle.ballots.specs.declared.members.Members.{Members}
use Rattle.grant_machine.specs.declared.output.Output.{Output}
use Rattle.hosts.specs.declared.acted.HostActed.{HostActed}
use Rattle.hosts.specs.declared.acted.HostActed.TheVariants.{Of, Ended, Ahead, Gone, OtherPlaces}
use Rattle.node_lines.specs.Lines.{letter_line}
use Rattle.node_service.specs.Texts.{head_text, reply_text}
use Rattle.printed_outputs.specs.Texts.{output_text}
use Rattle.seats.specs.Acted.{letters_of, told}
use Rattle.seats.specs.declared.acted.Acted.{Acted as Came}
use Rattle.host_service.specs.Numbers.{number_text}
use Rattle.host_service.specs.declared.number.EpochNumber.{EpochNumber}
use Rattle.host_service.specs.declared.reply.Beginning.{Beginning}
use Rattle.host_service.specs.declared.reply.Beginning.TheVariants.{Fresh, Restarted, Waits}
use Rattle.host_service.specs.declared.reply.HostReply.{HostReply}
use Rattle.host_service.specs.declared.reply.HostReply.TheVariants.{There, Begins, InEpoch, Released, State, StateTooLong}
use Rattle.host_service.specs.declared.reply.HostReply.TheVariants.{Joined, NoState, Again, AsNode}

-- the line of a letter with the number before it
abbrev pub numbered_letter : EpochNumber → Letter → List ℕ
numbered_letter n l = number_text n ++ letter_line l

abbrev pub numbered_letters : EpochNumber → List Letter → List ℕ
numbered_letters n ls = flat_map (numbered_letter n) ls

-- what a node replied that was asked no release, with the number before each line
abbrev pub acted_text_in : EpochNumber → Came → List ℕ
acted_text_in n acted = (number_text n ++ head_text (told acted)) ++ numbered_letters n (letters_of acted)

-- the refusal of an offer beyond the places that count
abbrev pub ended_text : EpochNumber → List ℕ
ended_text n = decimal n.epoch ++ (codes "/" ++ (decimal n.places ++ codes " fault 8 Ended\n"))

-- what came of what the node of an epoch was asked; a refusal by the number has no number before it
abbrev pub in_epoch_text : EpochNumber → HostActed → List ℕ
in_epoch_text n (Of acted) = acted_text_in n acted
in_epoch_text n Ended = ended_text n
in_epoch_text n Ahead = codes "error 8 Ahead\n"
in_epoch_text n Gone = codes "error 9 Gone\n"
in_epoch_text n OtherPlaces = codes "error 10 OtherPlaces\n"

-- the last line of a release: the host's own epoch, and the first place of it that it lacks
abbrev pub next_text : EpochNumber → ℕ → List ℕ
next_text n place = codes "next " ++ (decimal n.epoch ++ (codes "/" ++ (decimal n.places ++ (codes " " ++ (decimal place ++ codes "\n")))))

-- the first line of a host
abbrev pub there_text : ℕ → Members → ℕ → List ℕ
there_text id members places = codes "host " ++ (decimal id ++ (codes " of " ++ (decimal (member_count members) ++ (codes " places " ++ (decimal places ++ codes "\n")))))

-- that of one over files: who it is, and how it begins
abbrev pub who_text : ℕ → Members → ℕ → List ℕ
who_text id members places = codes "host " ++ (decimal id ++ (codes " of " ++ (decimal (member_count members) ++ (codes " places " ++ decimal places))))

abbrev pub restarted_text : ℕ → List ℕ → List ℕ
restarted_text epoch digest = codes " restarted " ++ (decimal epoch ++ (codes " " ++ (encode_lower digest ++ 10 ∷ [])))

abbrev pub beginning_text : Beginning → List ℕ
beginning_text Fresh = codes " fresh\n"
beginning_text (Restarted epoch digest) = restarted_text epoch digest
beginning_text Waits = codes " waits\n"

abbrev pub begins_text : ℕ → Members → ℕ → Beginning → List ℕ
begins_text id members places begins = who_text id members places ++ beginning_text begins

-- a state, by its bytes' digits
abbrev pub state_text : List ℕ → List ℕ
state_text bytes = codes "state " ++ (encode_lower bytes ++ 10 ∷ [])

-- one that is too long to be told
abbrev pub too_long_text : List ℕ
too_long_text = codes "fault 9 StateTooLong\n"

-- the epoch to which a host went
abbrev pub joined_text : ℕ → List ℕ
joined_text epoch = codes "joined " ++ (decimal epoch ++ 10 ∷ [])

-- bytes that are no state to which it goes
abbrev pub no_state_text : List ℕ
no_state_text = codes "error 11 NoState\n"

-- how many outputs are told again, and each on a line of its own, without a number
abbrev pub again_head : ℕ → List ℕ
again_head count = codes "again " ++ (decimal count ++ 10 ∷ [])

abbrev pub output_line : Output → List ℕ
output_line o = output_text o ++ 10 ∷ []

abbrev pub output_lines : List Output → List ℕ
output_lines os = flat_map output_line os

abbrev pub again_text : List Output → List ℕ
again_text os = again_head (length os) ++ output_lines os

-- what is told at one time
abbrev pub host_text : HostReply → List ℕ
host_text (There id members places) = there_text id members places
host_text (Begins id members places begins) = begins_text id members places begins
host_text (InEpoch n acted) = in_epoch_text n acted
host_text (Released told next place) = reply_text told ++ next_text next place
host_text (State bytes) = state_text bytes
host_text StateTooLong = too_long_text
host_text (Joined epoch) = joined_text epoch
host_text NoState = no_state_text
host_text (Again outputs) = again_text outputs.items
host_text (AsNode told) = reply_text told
