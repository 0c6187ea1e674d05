-- A table spells one command at most.
use Rattle.std.proofs.Common.{◌≡◌, ℕ, if◌then◌else◌, List, [], Option, None, Some, inl, inr, pos, bytes_eq, refl, sym}
use Rattle.std.proofs.Common.{ap, subst, ◌∙◌, codes}
use Rattle.toml.specs.Data.{Data, string, integer, array, item, no_items, get, Members}
use Rattle.toml.specs.Parse.{parse_document}
use Rattle.flow_state.specs.declared.channel.Channel.{Channel}
use Rattle.flow_state.specs.declared.channel.Phy.{Phy}
use Rattle.flow_state.specs.declared.channel.Phy.TheVariants.{Tdma, Advanced}
use Rattle.flow_state.specs.declared.settings.ChannelSettings.{ChannelSettings}
use Rattle.flow_state.specs.declared.flow.FlowKind.{FlowKind}
use Rattle.flow_state.specs.declared.flow.FlowKind.TheVariants.{BestEffort, Ugs, Poll, Station, Initial}
use Rattle.flow_state.specs.Limits.{last_time}
use Rattle.grant_machine.specs.declared.command.Command.{Command}
use Rattle.grant_machine.specs.declared.command.Command.TheVariants as commands
use Rattle.script_text.specs.CommandTable.{HasBackoff, HasKeep, HasLast, HasPair, HasPhy, HasService, NamesPhy}
use Rattle.script_text.specs.CommandTable.{SpellsCommand}
use Rattle.node_lines.specs.Commands.{HoldsCommand, IsCommandText}

-- ---- the one command that a table may spell

-- what is under a key, and what its absence stands for
abbrev number_of : Option Data → ℕ
number_of (Some (integer (pos n))) = n
number_of _ = 0

abbrev pair_of : Option Data → ℕ × ℕ
pair_of (Some (array (item (integer (pos start)) (item (integer (pos end)) no_items)))) = (start, end)
pair_of _ = (255, 255)

abbrev text_of : Option Data → List ℕ
text_of (Some (string s)) = s
text_of _ = []

abbrev last_of : Option Data → ℕ
last_of None = last_time
last_of (Some d) = number_of (Some d)

abbrev phy_of : Option Data → Phy
phy_of found = if bytes_eq (text_of found) (codes "advanced") then Advanced else Tdma

abbrev number_at : Data → List ℕ → ℕ
number_at d key = number_of (get key d)

abbrev channel_of : Data → Channel
channel_of d = record {
  id = number_at d (codes "ch");
  ucd = number_at d (codes "ucd");
  phy = phy_of (get (codes "phy") d);
  short_max = number_at d (codes "short_max");
  ranging_backoff = pair_of (get (codes "ranging") d);
  data_backoff = pair_of (get (codes "data") d);
  base = number_at d (codes "base");
}

abbrev settings_of : Data → ChannelSettings
settings_of d = record {
  ucd = number_at d (codes "ucd");
  phy = phy_of (get (codes "phy") d);
  short_max = number_at d (codes "short_max");
  ranging_backoff = pair_of (get (codes "ranging") d);
  data_backoff = pair_of (get (codes "data") d);
}

-- by the name of a service, and by that of a kind
abbrev service_of : List ℕ → Data → FlowKind
service_of name d =
    if bytes_eq name (codes "best_effort") then BestEffort (number_at d (codes "priority"))
    else if bytes_eq name (codes "ugs") then Ugs (number_at d (codes "size")) (number_at d (codes "interval")) (number_at d (codes "jitter")) (number_at d (codes "base"))
    else if bytes_eq name (codes "station") then Station (number_at d (codes "size")) (number_at d (codes "interval")) (number_at d (codes "jitter")) (number_at d (codes "base"))
    else if bytes_eq name (codes "initial") then Initial (number_at d (codes "size")) (number_at d (codes "interval")) (number_at d (codes "jitter")) (number_at d (codes "base"))
    else Poll (number_at d (codes "interval")) (number_at d (codes "jitter")) (number_at d (codes "base"))

abbrev command_of : List ℕ → Data → Command
command_of name d =
    if bytes_eq name (codes "channel") then commands.Channel (channel_of d)
    else if bytes_eq name (codes "change") then commands.Change (number_at d (codes "ch")) (settings_of d)
    else if bytes_eq name (codes "flow") then commands.Flow (number_at d (codes "ch")) (number_at d (codes "modem")) (number_at d (codes "tag"))
    (last_of (get (codes "last") d)) (service_of (text_of (get (codes "service") d)) d)
    else if bytes_eq name (codes "drop") then commands.Drop (number_at d (codes "ch")) (number_at d (codes "sid"))
    else if bytes_eq name (codes "request") then commands.Request (number_at d (codes "ch")) (number_at d (codes "sid")) (number_at d (codes "n")) (number_at d (codes "sent"))
    else if bytes_eq name (codes "cut") then commands.Cut (number_at d (codes "ch")) (number_at d (codes "len")) (number_at d (codes "not_before")) (number_at d (codes "ack"))
    (number_at d (codes "keep")) (pair_of (get (codes "ranging") d)) (pair_of (get (codes "data") d))
    else commands.Noop

is_last : (d : Data) (l : ℕ) → HasLast d l → last_of (get (codes "last") d) ≡ l
is_last d l (inl has) = rw (has.held) refl
is_last d l (inr none) = rw (none.0) (sym none.1)

is_keep : (d : Data) (k : ℕ) → HasKeep d k → number_at d (codes "keep") ≡ k
is_keep d k (inl has) = rw (has.held) refl
is_keep d k (inr none) = rw (none.0) (sym none.1)

is_pair : (d : Data) (key : List ℕ) (p : ℕ × ℕ) → HasPair d key p → pair_of (get key d) ≡ p
is_pair d key p has = rw (has.held, has.is_pair.items) refl

is_backoff : (d : Data) (key : List ℕ) (p : ℕ × ℕ) → HasBackoff d key p → pair_of (get key d) ≡ p
is_backoff d key p (inl has) = is_pair d key p has
is_backoff d key p (inr none) = rw (none.0) (sym none.1)

is_named : (d : Data) (p : Phy) → NamesPhy d p → phy_of (get (codes "phy") d) ≡ p
is_named d Tdma text = rw text refl
is_named d Advanced text = rw text refl

is_phy : (d : Data) (p : Phy) → HasPhy d p → phy_of (get (codes "phy") d) ≡ p
is_phy d p (inl text) = is_named d p text
is_phy d p (inr none) = rw (none.0) (sym none.1)

is_service : (d : Data) (k : FlowKind) → HasService d k → service_of (text_of (get (codes "service") d)) d ≡ k
is_service d (BestEffort priority) (text, a) = rw (text, a.held) refl
is_service d (Ugs size interval jitter base) (text, (a, b, e, f)) = rw (text, a.held, b.held, e.held, f.held) refl
is_service d (Station size interval jitter base) (text, (a, b, e, f)) = rw (text, a.held, b.held, e.held, f.held) refl
is_service d (Initial size interval jitter base) (text, (a, b, e, f)) = rw (text, a.held, b.held, e.held, f.held) refl
is_service d (Poll interval jitter base) (text, b, e, f) = rw (text, b.held, e.held, f.held) refl

is_command : (d : Data) (c : Command) → SpellsCommand d c → command_of (text_of (get (codes "kind") d)) d ≡ c
is_command d commands.Noop text = rw text refl
is_command d (commands.Channel c) (text, h) =
    rw (text, h.id.held, h.ucd.held, is_phy d c.phy h.phy, h.short_max.held, is_pair d (codes "ranging") c.ranging_backoff h.ranging, is_pair d (codes "data") c.data_backoff h.data_backoff, h.base.held) refl
is_command d (commands.Change ch s) (text, a, h) =
    rw (text, a.held, h.ucd.held, is_named d s.phy h.phy, h.short_max.held, is_pair d (codes "ranging") s.ranging_backoff h.ranging, is_pair d (codes "data") s.data_backoff h.data_backoff) refl
is_command d (commands.Flow ch modem tag last kind) (text, a, b, e, f, g) =
    rw (text, a.held, b.held, e.held, is_last d last f, is_service d kind g) refl
is_command d (commands.Drop ch sid) (text, a, b) = rw (text, a.held, b.held) refl
is_command d (commands.Request ch sid n sent) (text, a, b, e, f) = rw (text, a.held, b.held, e.held, f.held) refl
is_command d (commands.Cut ch len not_before ack keep ranging sending) (text, a, b, e, f, g, i, j) =
    rw (text, a.held, b.held, e.held, f.held, is_keep d keep g, is_backoff d (codes "ranging") ranging i, is_backoff d (codes "data") sending j) refl

-- a table spells one command at most
one_command : (d : Data) (a b : Command) → SpellsCommand d a → SpellsCommand d b → a ≡ b
one_command d a b first second = sym (is_command d a first) ∙ is_command d b second

one_held : (ms : Members) (a b : Command) → HoldsCommand ms a → HoldsCommand ms b → a ≡ b
one_held ms a b first second =
    let same : first.0 ≡ second.0 = cc (first.1, second.1) in
    one_command second.0 a b (subst (λ (d : Data). SpellsCommand d a) same first.2) second.2

-- a text holds one command at most
pub one_text : (text : List ℕ) (a b : Command) → IsCommandText text a → IsCommandText text b → a ≡ b
one_text text a b first second =
    let same : first.members ≡ second.members = cc (first.read, second.read) in
    one_held second.members a b (subst (λ (ms : Members). HoldsCommand ms a) same first.holds) second.holds

-- a text whose table holds no command holds none
pub no_text : (text : List ℕ) (ms : Members) → parse_document text ≡ Some ms → ((c : Command) → ¬ HoldsCommand ms c) → (c : Command) → ¬ IsCommandText text c
no_text text ms read none c holds =
    let same : holds.members ≡ ms = cc (holds.read, read) in
    none c (subst (λ (m : Members). HoldsCommand m c) same holds.holds)
