-- Which counts of faults rose in a call that ends with a status.
use Rattle.std.specs.Prelude.{◌≡◌, ◌≢◌, ℕ}
use Rattle.image_device.specs.Counts.{Rose}
use Rattle.image_device.specs.View.{View}
use Rattle.tsd_words.specs.declared.status.Status.{Status}
use Rattle.tsd_words.specs.declared.status.Status.TheVariants as status

-- A count of faults of the port rose exactly where the status is that fault's.
pub record TellsPortFaults (r : Status) (old new : View) : Type 0 where
  pub device_fault : r ≡ status.DeviceFault → Rose old.faults new.faults
  pub put_fault : r ≡ status.PutFault → Rose old.put_faults new.put_faults
  pub no_device_fault : r ≢ status.DeviceFault → new.faults ≡ old.faults
  pub no_put_fault : r ≢ status.PutFault → new.put_faults ≡ old.put_faults

-- The same of a call that takes from a source too, whose count of faults is given.
pub record TellsFaults (r : Status) (source_before source_now : ℕ) (old new : View) : Type 0 where
  pub source_fault : r ≡ status.SourceFault → Rose source_before source_now
  pub no_source_fault : r ≢ status.SourceFault → source_now ≡ source_before
  pub port : TellsPortFaults r old new
