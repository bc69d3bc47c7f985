-- WHAT `stat SCRIPT1 SCRIPT2` DOES: the plays of two scripts, one from each source
use Rattle.std.specs.Prelude.{◌≡◌, ℕ, ◌+◌, ◌==◌, ◌&&◌, not, Bool, false, List, [], ◌∷◌, ◌++◌}
use Rattle.std.specs.Prelude.{Some, codes, String, string_bytes}
use Rattle.std.specs.List.{starts_with}
use Rattle.std.specs.Str.{bytes_eq}
use Rattle.std.specs.declared.alloc.Global.{Global}
use Rattle.tm_io.specs.Seen.{SinkSeen, SourceSeen, SourceFailed}
use Rattle.tm_io.specs.Sources.{TakesAll, TakesCount}
use Rattle.tm_script.specs.declared.faults.ScriptFault.{ScriptFault}
use Rattle.tm_script.specs.declared.syntax.Script.{Script}
use Rattle.tm_script.specs.Faults.{fault_of}
use Rattle.tm_script.specs.Grammar.{Spells as SpellsScript}
use Rattle.linux_view.specs.declared.statuses.TheConstants.{MOST_TRACE_BYTES, NO_MEMORY, NO_TRACE}
use Rattle.linux_view.specs.declared.statuses.TheConstants.{READ_FAULT, TOO_LONG}
use Rattle.linux_view.specs.Ends.{IsEnd}
use Rattle.view_stat.specs.Comparing.{IsPairTold}
use Rattle.view_main.specs.Refusals.{script_text}
use Rattle.view_main.specs.declared.pairs.Which.{Which}
use Rattle.view_main.specs.declared.pairs.Which.TheVariants as which

-- a word names a file: it doesn't begin as an option does
abbrev pub is_named : (word : List ℕ) → Bool
is_named word = not (starts_with (λ (a b : ℕ). a == b) word (codes "--"))

-- the words are `stat` and the names of two files
abbrev pub is_pair : List (String Global) → Bool
is_pair [] = false
is_pair (word ∷ []) = false
is_pair (word ∷ one ∷ []) = false
is_pair (word ∷ one ∷ two ∷ []) =
    bytes_eq (string_bytes word) (codes "stat")
    && (is_named (string_bytes one) && is_named (string_bytes two))
is_pair (word ∷ one ∷ two ∷ other ∷ more) = false

-- what stands in front of what is told of a script
abbrev pub name_of : Which → List ℕ
name_of which.First = codes "script 1: "
name_of which.Second = codes "script 2: "

-- that a script could not be read
abbrev pub unread_line : Which → List ℕ
unread_line which.First = codes "tmigview: script 1 could not be read\n"
unread_line which.Second = codes "tmigview: script 2 could not be read\n"

-- that a script has too many bytes
abbrev pub excess_line : Which → List ℕ
excess_line which.First = codes "tmigview: script 1 has more than 67108864 bytes\n"
excess_line which.Second = codes "tmigview: script 2 has more than 67108864 bytes\n"

-- one of the scripts is none: it is named, and its first fault is told, with the line and what may
-- stand there
pub record IsRefused (number : Which) (bytes text : List ℕ) (status : ℕ) : Type 0 where
  pub fault : ScriptFault
  pub first : fault_of bytes ≡ Some fault
  pub text_is : text ≡ name_of number ++ script_text bytes fault
  pub status_is : status ≡ NO_TRACE

-- what is written of a first script and of the bytes of a second one: both plays and by how much
-- they differ; or that the bytes spell no script
pub data IsSecondCounting (one : Script) (bytes text : List ℕ) (status : ℕ) : Type 0 where
  second_spelled : (two : Script) → SpellsScript bytes two → IsPairTold one two text status →
      IsSecondCounting one bytes text status
  second_refused : IsRefused which.Second bytes text status →
      IsSecondCounting one bytes text status

-- WHAT IS WRITTEN of the bytes of two scripts; where both are none, the first is told
pub data IsPairCounting (ones twos text : List ℕ) (status : ℕ) : Type 0 where
  first_spelled : (one : Script) → SpellsScript ones one → IsSecondCounting one twos text status →
      IsPairCounting ones twos text status
  first_refused : IsRefused which.First ones text status → IsPairCounting ones twos text status

-- what is written of the bytes of a first script and of the source of a second one, which went from
-- old to new
pub data IsSecondOutput (ones : List ℕ) (old new : SourceSeen) (text : List ℕ) (status : ℕ) :
    Type 0 where
  second_read : (twos : List ℕ) → TakesAll old new MOST_TRACE_BYTES twos →
      IsPairCounting ones twos text status → IsSecondOutput ones old new text status
  second_broken : SourceFailed old new → text ≡ unread_line which.Second → status ≡ READ_FAULT →
      IsSecondOutput ones old new text status
  second_long : TakesCount old new (MOST_TRACE_BYTES + 1) → text ≡ excess_line which.Second →
      status ≡ TOO_LONG → IsSecondOutput ones old new text status

-- WHAT IS WRITTEN of the sources of two scripts: the first went from `old` to `new`, the second from
-- `from` to `to`
pub data IsPairOutput (old new from to : SourceSeen) (text : List ℕ) (status : ℕ) : Type 0 where
  first_read : (ones : List ℕ) → TakesAll old new MOST_TRACE_BYTES ones →
      IsSecondOutput ones from to text status → IsPairOutput old new from to text status
  first_broken : SourceFailed old new → text ≡ unread_line which.First → status ≡ READ_FAULT →
      IsPairOutput old new from to text status
  first_long : TakesCount old new (MOST_TRACE_BYTES + 1) → text ≡ excess_line which.First →
      status ≡ TOO_LONG → IsPairOutput old new from to text status

-- THE PROGRAM ENDS with that, or for want of memory
pub data RunsPair (old new from to : SourceSeen) (before after : SinkSeen) (status : ℕ) :
    Type 0 where
  pair_done : (text : List ℕ) (whole : ℕ) → IsPairOutput old new from to text whole →
      IsEnd text whole before after status → RunsPair old new from to before after status
  pair_wanting : status ≡ NO_MEMORY → RunsPair old new from to before after status
