-- What stands after a start of which a call was refused (docs/READER.md, "The reader").
use Rattle.std.specs.Prelude.{ℕ, List, [], ◌∷◌, Option, Some, None}
use Rattle.inp_model.specs.declared.reply.Reply.{Reply}
use Rattle.inp_model.specs.declared.reply.Reply.TheVariants.{Opened}
use Rattle.inp_reader.specs.declared.call_made.CallMade.{CallMade}
use Rattle.inp_reader.specs.declared.phase.Phase.TheVariants.{Needed}
use Rattle.inp_reader.specs.Reader.{ReaderState}

-- the client that a reply opens, if it opens one
abbrev pub opened_by : Reply → Option ℕ
opened_by (Opened at client ring) = Some client
opened_by _ = None

-- the client that the first of these calls opened, if it did
abbrev pub client_opened : List CallMade → Option ℕ
client_opened [] = None
client_opened (call ∷ calls) = opened_by call.reply

-- where a query was refused: the client is the new one, nothing is queued, and the view is as before until the reader
-- synchronises
abbrev pub after_refused_query : ℕ → ReaderState → ReaderState
after_refused_query client r = record { client = client; queue = []; view = r.view; phase = Needed; left = [] }
