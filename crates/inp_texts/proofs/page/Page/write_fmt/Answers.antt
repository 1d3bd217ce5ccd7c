-- What a formatter writes is appended.
use Rattle.inp_texts.proofs.Pages.{appended-writes}
use Rattle.inp_texts.proofs.page.Page.write_fmt.Goals as goal

pub returns-in-Ok : goal.returns-in-Ok
returns-in-Ok g c = record {
  pushed =
      appended-writes (g.D.Display.output c.args.value) c.args.self.now c.write.new.self
      c.in-Ok.ensures.writes;
}
