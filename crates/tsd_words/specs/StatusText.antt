-- How a run's end is told: its code and its text.
use Rattle.std.specs.Prelude.{ℕ, List, [], ◌∷◌, ◌++◌, codes, decimal}
use Rattle.std.specs.List.{join_with_byte}
use Rattle.image_layout.specs.declared.fault.HeaderFault.{HeaderFault}
use Rattle.image_layout.specs.declared.fault.HeaderFault.TheVariants as header
use Rattle.image_layout.specs.declared.fault.ImageFault.{ImageFault}
use Rattle.image_layout.specs.declared.fault.ImageFault.TheVariants as fault
use Rattle.script_text.specs.Texts.{level_text}
use Rattle.tsd_words.specs.declared.status.Status.{Status}
use Rattle.tsd_words.specs.declared.status.Status.TheVariants as status

abbrev pub header_words : HeaderFault → List (List ℕ)
header_words header.Magic = codes "magic" ∷ []
header_words (header.Version found) = codes "version" ∷ decimal found ∷ []
header_words (header.Field number found) = codes "field" ∷ decimal number ∷ decimal found ∷ []

abbrev pub fault_words : ImageFault → List (List ℕ)
fault_words fault.NotFormatted = codes "not-formatted" ∷ []
fault_words fault.Descriptor = codes "damaged" ∷ codes "descriptor" ∷ []
fault_words (fault.Header h) = codes "header" ∷ header_words h
fault_words (fault.Slot slot source target) =
    codes "damaged" ∷ codes "slot" ∷ decimal slot ∷ decimal source ∷ decimal target ∷ []
fault_words (fault.Repeated source target) = codes "damaged" ∷ codes "repeated" ∷ decimal source ∷ decimal target ∷ []
fault_words (fault.Primary block) = codes "damaged" ∷ codes "primary" ∷ decimal block ∷ []
fault_words (fault.EndNotLive source target) = codes "damaged" ∷ codes "end" ∷ decimal source ∷ decimal target ∷ []
fault_words (fault.Count block stored found) =
    codes "damaged" ∷ codes "count" ∷ decimal block ∷ decimal stored ∷ decimal found ∷ []

-- what is wrong with an image, without a line feed
abbrev pub fault_text : ImageFault → List ℕ
fault_text f = join_with_byte 32 (fault_words f)

-- 0 is a run that did all its work
abbrev pub status_code : Status → ℕ
status_code status.Done = 0
status_code status.Usage = 2
status_code (status.NotImage f) = 3
status_code status.DeviceFault = 4
status_code status.SourceFault = 5
status_code status.PutFault = 6
status_code status.TooLong = 7
status_code status.NoMemory = 8
status_code status.Truncated = 9
status_code (status.RootDenied l) = 10

-- the text of a status, without a line feed; a run that did all its work has none
abbrev pub status_text : Status → List ℕ
status_text status.Done = []
status_text status.Usage = codes "tsd: usage"
status_text (status.NotImage f) = codes "tsd: not an image: " ++ fault_text f
status_text status.DeviceFault = codes "tsd: device fault"
status_text status.SourceFault = codes "tsd: input fault"
status_text status.PutFault = codes "tsd: output fault"
status_text status.TooLong = codes "tsd: input too long"
status_text status.NoMemory = codes "tsd: no memory"
status_text status.Truncated = codes "tsd: input ends inside a frame"
status_text (status.RootDenied l) = codes "tsd: root denied, " ++ (level_text l ++ codes " attained")
