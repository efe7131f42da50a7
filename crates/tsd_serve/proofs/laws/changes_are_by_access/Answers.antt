use Rattle.std.proofs.Common.{sym, ◌∙◌, ap, append-nil}
use Rattle.serving.specs.Ran.{moments, taking}
use Rattle.tsd_serve.proofs.ByAccess.{access_law}
use Rattle.tsd_serve.proofs.laws.changes_are_by_access.Goals as goal

pub returns : goal.returns
returns g c = λ words status source_old source_new port_old port_new.
    let source = taking g.S.Source.told g.S.Source.taken g.S.Source.left_bytes g.S.Source.ended source_old source_new in
    let port = moments g.P.Device.told g.P.Device.view port_old port_new in
    access_law words status source port
    (λ same. record { taken = λ told. ap g.S.Source.taken same ∙ sym (append-nil (g.S.Source.taken source_old)); left = λ told. ap g.S.Source.left_bytes (sym same) })
    (λ same. ap g.P.Device.view same)
    (λ told. g.met.P.Device.sound port_old told)
