-- Interval usage codes (CM-SP-MULPIv3.1, MAP message), and what modems make of them.
use Rattle.std.specs.Prelude.{ℕ, Bool, ◌==◌, ◌||◌, if◌then◌else◌, List, codes}

-- Request
abbrev pub request : ℕ
request = 1

-- Initial Maintenance
abbrev pub initial_maintenance : ℕ
initial_maintenance = 3

-- Station Maintenance
abbrev pub station_maintenance : ℕ
station_maintenance = 4

-- Short Data Grant
abbrev pub short_data_grant : ℕ
short_data_grant = 5

-- Long Data Grant
abbrev pub long_data_grant : ℕ
long_data_grant = 6

-- Null Information Element
abbrev pub null : ℕ
null = 7

-- Advanced PHY Short Data Grant
abbrev pub advanced_short_data_grant : ℕ
advanced_short_data_grant = 9

-- Advanced PHY Long Data Grant
abbrev pub advanced_long_data_grant : ℕ
advanced_long_data_grant = 10

-- Advanced PHY Unsolicited Grant
abbrev pub advanced_unsolicited_grant : ℕ
advanced_unsolicited_grant = 11

-- Expansion
abbrev pub expansion : ℕ
expansion = 15

-- a modem may send a request in an interval of its SID: a poll
abbrev pub lets_request : ℕ → Bool
lets_request iuc = iuc == request

-- a modem may send data in an interval of its SID
abbrev pub lets_transmit : ℕ → Bool
lets_transmit iuc =
    (iuc == short_data_grant) || (iuc == long_data_grant)
    || (iuc == advanced_short_data_grant) || (iuc == advanced_long_data_grant) || (iuc == advanced_unsolicited_grant)

-- a modem ranges in an interval of its SID
abbrev pub lets_range : ℕ → Bool
lets_range iuc = iuc == station_maintenance

-- an element of the SID answers a request that waits: granted before the Null, pending after it; no unsolicited grant
-- does
abbrev pub answers_request : ℕ → Bool
answers_request iuc =
    (iuc == short_data_grant) || (iuc == long_data_grant)
    || (iuc == advanced_short_data_grant) || (iuc == advanced_long_data_grant)

-- the name of an IUC in the standard's table
abbrev pub iuc_name : ℕ → List ℕ
iuc_name iuc =
    if iuc == 1 then codes "Request"
    else if iuc == 2 then codes "REQ/Data"
    else if iuc == 3 then codes "Initial Maintenance"
    else if iuc == 4 then codes "Station Maintenance"
    else if iuc == 5 then codes "Short Data Grant"
    else if iuc == 6 then codes "Long Data Grant"
    else if iuc == 7 then codes "Null"
    else if iuc == 8 then codes "Data Acknowledge"
    else if iuc == 9 then codes "Advanced PHY Short Data Grant"
    else if iuc == 10 then codes "Advanced PHY Long Data Grant"
    else if iuc == 11 then codes "Advanced PHY Unsolicited Grant"
    else if iuc == 15 then codes "Expansion"
    else codes "Reserved"
