-- Events and scripts as text, an event a line, and above an offer its command. Numbers are decimal, and bytes are hexadecimal in lower case.
use Rattle.std.specs.Prelude.{ℕ, List, [], ◌∷◌, ◌++◌, codes, decimal}
use Rattle.std.specs.List.{flat_map}
use Rattle.hex.specs.Hex.{encode_lower}
use Rattle.ballots.specs.declared.members.Members.{Members}
use Rattle.ballots.specs.Members.{member_count}
use Rattle.world_events.specs.declared.event.Event.{Event}
use Rattle.world_events.specs.declared.event.Event.TheVariants.{Lead, Offer, Tell, Deliver, DeliverThenCrash, Crash}
use Rattle.world_events.specs.declared.event.Event.TheVariants.{Restart, Release, Hear, Want, Tick}
use Rattle.command_words.specs.Commands.{value_text}

-- the table of an event
abbrev pub event_text : Event → List ℕ
event_text (Lead k) = codes "{ kind = \"lead\", node = " ++ (decimal k ++ codes " }")
event_text (Offer k value) = codes "{ kind = \"offer\", node = " ++ (decimal k ++ (codes ", value = \"" ++ (encode_lower value ++ codes "\" }")))
event_text (Tell k to place) =
    codes "{ kind = \"tell\", node = " ++ (decimal k ++ (codes ", to = " ++ (decimal to ++ (codes ", place = " ++ (decimal place ++ codes " }")))))
event_text (Deliver i) = codes "{ kind = \"deliver\", letter = " ++ (decimal i ++ codes " }")
event_text (DeliverThenCrash i) = codes "{ kind = \"deliver_then_crash\", letter = " ++ (decimal i ++ codes " }")
event_text (Crash k) = codes "{ kind = \"crash\", node = " ++ (decimal k ++ codes " }")
event_text (Restart k) = codes "{ kind = \"restart\", node = " ++ (decimal k ++ codes " }")
event_text (Release k now) = codes "{ kind = \"release\", node = " ++ (decimal k ++ (codes ", now = " ++ (decimal now ++ codes " }")))
event_text (Hear m i near) =
    codes "{ kind = \"hear\", modem = " ++ (decimal m ++ (codes ", output = " ++ (decimal i ++ (codes ", near = " ++ (decimal near ++ codes " }")))))
event_text (Want m ch sid n) =
    codes "{ kind = \"want\", modem = " ++ (decimal m ++ (codes ", ch = " ++ (decimal ch
    ++ (codes ", sid = " ++ (decimal sid ++ (codes ", n = " ++ (decimal n ++ codes " }")))))))
event_text (Tick m ch slot random) =
    codes "{ kind = \"tick\", modem = " ++ (decimal m ++ (codes ", ch = " ++ (decimal ch
    ++ (codes ", slot = " ++ (decimal slot ++ (codes ", random = " ++ (decimal random ++ codes " }")))))))

-- above an offer the command that its value spells, as a comment
abbrev pub comment : Event → List ℕ
comment (Offer k value) = codes "  # " ++ (value_text value ++ codes "\n")
comment other = []

-- its line, behind that
abbrev pub event_line : Event → List ℕ
event_line event = comment event ++ (codes "  " ++ (event_text event ++ codes ",\n"))

-- the ids of modems, each but the first behind a comma
abbrev pub next_id : ℕ → List ℕ
next_id id = codes ", " ++ decimal id

abbrev pub ids_text : List ℕ → List ℕ
ids_text [] = []
ids_text (id ∷ ids) = decimal id ++ flat_map next_id ids

-- what stands above the events
abbrev pub head_text : Members → List ℕ → List ℕ
head_text count ids = codes "members = " ++ (decimal (member_count count) ++ (codes "\nmodems = [" ++ (ids_text ids ++ codes "]\nevent = [\n")))

-- the text of a script of these members, ids of modems and events
abbrev pub script_text : Members → List ℕ → List Event → List ℕ
script_text count ids events = head_text count ids ++ flat_map event_line events ++ codes "]\n"
