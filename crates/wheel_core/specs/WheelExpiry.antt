-- the nine levels of the timer wheel, and the rule by which an asked expiry becomes a wheel expiry
use Rattle.std.specs.Prelude.{ℕ, ◌+◌, ◌-◌, ◌*◌, ◌/◌, ◌^◌, ◌<◌, ◌≤◌, nat_lt, if◌then◌else◌}

-- the granularity of a level, in jiffies
abbrev pub granularity : ℕ → ℕ
granularity level = 8 ^ level

-- the least delay of a level from 1 on (LVL_START)
abbrev pub level_start : ℕ → ℕ
level_start level = 63 * 8 ^ (level - 1)

-- from this delay on an expiry is taken for a nearer one (WHEEL_TIMEOUT_CUTOFF): 1,056,964,608
-- jiffies
abbrev pub cutoff : ℕ
cutoff = 63 * 2 ^ 24

-- the delay that is taken in its place (WHEEL_TIMEOUT_MAX): 1,040,187,392 jiffies
abbrev pub greatest_timeout : ℕ
greatest_timeout = 62 * 2 ^ 24

-- the level of a delay
unfoldable pub level_of_delay : ℕ → ℕ
level_of_delay delta =
    if nat_lt delta (level_start 1) then 0
    else if nat_lt delta (level_start 2) then 1
    else if nat_lt delta (level_start 3) then 2
    else if nat_lt delta (level_start 4) then 3
    else if nat_lt delta (level_start 5) then 4
    else if nat_lt delta (level_start 6) then 5
    else if nat_lt delta (level_start 7) then 6
    else if nat_lt delta (level_start 8) then 7
    else 8

-- the first multiple of the level's granularity that is past a time
abbrev pub granule_end : ℕ → ℕ → ℕ
granule_end level time = (time / granularity level + 1) * granularity level

-- the level at which a timer that asks for an expiry goes into a base of a clock
-- (calc_wheel_index)
unfoldable pub wheel_level_of : (expires clock : ℕ) → ℕ
wheel_level_of expires clock =
    if nat_lt expires clock then 0
    else level_of_delay (expires - clock)

-- the wheel expiry of a timer that asks for an expiry in a base of a clock: the clock where it asks
-- for the past; the next jiffy at level 0; else the end of the granule, from the cutoff on that of
-- the greatest timeout (calc_wheel_index, calc_index)
unfoldable pub wheel_expiry_of : (expires clock : ℕ) → ℕ
wheel_expiry_of expires clock =
    if nat_lt expires clock then clock
    else if nat_lt (expires - clock) (level_start 1) then expires + 1
    else if nat_lt (expires - clock) cutoff then
    granule_end (level_of_delay (expires - clock)) expires
    else granule_end 8 (clock + greatest_timeout)

-- what the rule promises of times below 2^47
pub record KeepsTime (expires clock : ℕ) : Type 0 where
  pub level : wheel_level_of expires clock < 9
  pub not_before_clock : clock ≤ wheel_expiry_of expires clock
  pub never_early : clock ≤ expires → expires - clock < cutoff
      → expires < wheel_expiry_of expires clock
  pub late_by_a_granule : clock ≤ expires → expires - clock < cutoff
      → wheel_expiry_of expires clock ≤ expires + granularity (wheel_level_of expires clock)
  -- a granule is at most 8 in 63 of the delay, or one jiffy
  pub late_by_an_eighth : clock ≤ expires → expires - clock < cutoff
      → 63 * wheel_expiry_of expires clock ≤ 63 * expires + 8 * (expires - clock) + 63
  pub at_cutoff : clock + cutoff ≤ expires
      → clock + greatest_timeout < wheel_expiry_of expires clock
  pub in_time : wheel_expiry_of expires clock ≤ 2 ^ 47
