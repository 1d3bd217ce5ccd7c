-- What C is told of the clients of a device.
use Rattle.std.specs.Prelude.{◌≡◌, ℕ, Bool, ◌&&◌, nat_lt, if◌then◌else◌, List, length, take, Option, Some}
use Rattle.inp_model.specs.declared.step.Step.{Step}
use Rattle.inp_model.specs.Past.{is_open, is_revoked, holder, clock_of, has_mask, mask_words}
use Rattle.inp_model.specs.Reply.{written}
use Rattle.inp_model.specs.Step.{is_same}
use Rattle.inp_feedback.specs.UEntry.{steps_in}
use Rattle.inp_uinput.specs.Queries.{visible_to, readable_clients, mask_word_of}
use Rattle.inp_c.specs.declared.kept.Kept.{Kept}
use Rattle.inp_c.specs.declared.kept.Kept.TheVariants.{Device}
use Rattle.inp_c.specs.declared.kept_device.KeptDevice.{KeptDevice}
use Rattle.inp_c.specs.declared.c_client.CClient.{CClient}
use Rattle.inp_c.specs.declared.status.TheConstants.{BAD_HANDLE}
use Rattle.inp_c.specs.Status.{argument_status}
use Rattle.inp_c.specs.ToldStep.{clock_number}

-- the steps that a kept device accepted, newest first
abbrev pub kept_past : KeptDevice → List Step
kept_past device = steps_in device.udev.kept

-- a call that wants a device and an open client
abbrev pub client_status : Option Kept → ℕ → ℕ
client_status (Some (Device device)) client = argument_status (is_open (kept_past device) client)
client_status _ client = BAD_HANDLE

-- a type has a mask with this word
abbrev pub has_mask_word : ℕ → ℕ → Bool
has_mask_word kind word = has_mask kind && nat_lt word (mask_words kind)

-- a call that wants a device, an open client and a word of a mask
abbrev pub mask_status : Option Kept → ℕ → ℕ → ℕ → ℕ
mask_status (Some (Device device)) client kind word =
    argument_status (has_mask_word kind word && is_open (kept_past device) client)
mask_status _ client kind word = BAD_HANDLE

-- a client's clock by the kernel's number, and 1 where it was revoked or holds the grab, else 0
abbrev pub told_client : List Step → ℕ → CClient
told_client past client = record {
  clock = clock_number (clock_of past client);
  revoked = if is_revoked past client then 1 else 0;
  grabs = if is_same (holder past) client then 1 else 0;
}

-- the clients of a kept device that could read something now, ascending
abbrev pub readable_of : KeptDevice → List ℕ
readable_of device = readable_clients device.udev.description (kept_past device)

-- the client of the handle's device could read so many events now
pub record IsVisibleCount (kept : Option Kept) (client count : ℕ) : Type 0 where
  pub device : KeptDevice
  pub is : kept ≡ Some (Device device)
  pub count_is : visible_to device.udev.description (kept_past device) client ≡ Some count

-- the clients of the handle's device that could read something now stand at the front of C's array, as many as fit,
-- and C is told how many there are in all
pub record AreToldReadable (kept : Option Kept) (clients new_clients : List ℕ) (count : ℕ) : Type 0 where
  pub device : KeptDevice
  pub is : kept ≡ Some (Device device)
  pub count_is : count ≡ length (readable_of device)
  pub clients_written : new_clients ≡ written (take (length clients) (readable_of device)) clients

-- the client of the handle's device stands as C is told
pub record IsToldClient (kept : Option Kept) (client : ℕ) (state : CClient) : Type 0 where
  pub device : KeptDevice
  pub is : kept ≡ Some (Device device)
  pub state_is : state ≡ told_client (kept_past device) client

-- the bits are a word of a mask of the client of the handle's device
pub record IsMaskWord (kept : Option Kept) (client kind word bits : ℕ) : Type 0 where
  pub device : KeptDevice
  pub is : kept ≡ Some (Device device)
  pub bits_are : mask_word_of (kept_past device) client kind word ≡ Some bits
