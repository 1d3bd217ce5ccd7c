-- A device that keeps nothing yet, and a reader and a joystick client that have not started.
use Rattle.std.specs.Prelude.{◌≡◌, []}
use Rattle.inp_model.specs.Description.{Description}
use Rattle.inp_uinput.specs.UdevView.{UdevView}
use Rattle.inp_recon.specs.View.{first_view}
use Rattle.inp_reader.specs.declared.reader.TheConstants.{NO_CLIENT}
use Rattle.inp_reader.specs.declared.phase.Phase.TheVariants.{Plain}
use Rattle.inp_reader.specs.Reader.{ReaderView}
use Rattle.inp_joy.specs.Codes.{startup_len}
use Rattle.inp_joy.specs.Joy.{JoyView}
use Rattle.inp_joy.specs.Picture.{blank_picture}

abbrev pub fresh_udev : Description → UdevView
fresh_udev d = record { description = d; kept = []; agains = 0 }

-- the reader is of this description, and has not started
pub record IsFreshReader (d : Description) (r : ReaderView) : Type 0 where
  pub description : r.description ≡ d
  pub reading : r.reading ≡ record { client = NO_CLIENT; queue = []; view = first_view d; phase = Plain; left = [] }
  pub made : r.made ≡ []

-- the joystick client is of this description, and has not started
pub record IsFreshJoy (d : Description) (j : JoyView) : Type 0 where
  pub description : j.description ≡ d
  pub joying : j.joying ≡ record {
    reading = record { client = NO_CLIENT; queue = []; view = first_view d; phase = Plain; left = [] };
    handed = startup_len d;
    picture = blank_picture;
  }
  pub made : j.made ≡ []
