-- What a crash leaves of a call on the ring.
use Rattle.std.specs.Prelude.{◌≡◌, ◌||◌, ◌⊎◌, true, List}
use Rattle.image_device.specs.Image.{Image}
use Rattle.image_device.specs.View.{View}
use Rattle.image_layout.specs.declared.offset.Patch.{Patch}
use Rattle.intent_journal.specs.Home.{overlaid, home, is_journal, AgreeBut}
use Rattle.intent_journal.specs.Records.{has_valid_records}

-- each open record is valid, and the image stands for what the disk stood for before, but in sectors that were loose
pub record IsBefore (old : View) (x : Image) : Type 0 where
  pub valid : has_valid_records x ≡ true
  pub stands : AgreeBut (λ n. is_journal n || old.loose n) (home old.reads) (home x)

-- each open record is valid, and the image stands for what the disk stood for before with the whole batch in place
pub record IsAfter (batch : List Patch) (old : View) (x : Image) : Type 0 where
  pub valid : has_valid_records x ≡ true
  pub stands : AgreeBut is_journal (overlaid batch (home old.reads)) (home x)

-- nothing or all of the batch
abbrev pub IsBeforeOrAfter : List Patch → View → Image → Type 0
IsBeforeOrAfter batch old x = IsBefore old x ⊎ IsAfter batch old x

-- the image stands for the same as another, and its open records are valid exactly where those of the other are
pub record IsTheSame (image x : Image) : Type 0 where
  pub valid : has_valid_records x ≡ has_valid_records image
  pub stands : AgreeBut is_journal (home image) (home x)
