-- Frames part in one way.
use Rattle.std.proofs.Common.{◌≡◌, [], ◌++◌, length, map, refl, ◌∙◌, ap, arith}
use Rattle.std.proofs.lemmas.List.{map-append}
use Rattle.request_frames.specs.Frames.{cut, frames, unended}
use Rattle.request_frames.specs.Reading.{request_of}
use Rattle.request_frames.specs.Replies.{reply_body}
use Rattle.request_frames.proofs.PartLaws.{frames_on, frame_first, frame_part, short_body}
use Rattle.serving.specs.Input.{IsSpelling}
use Rattle.serving.specs.Voice.{IsVoice}
use Rattle.serving.specs.FrameSpelling.{frame_spelling, frame_voice}

none_framed : frames [] ≡ []
unfolding cut
none_framed = refl

pub frames_lawful : IsSpelling frame_spelling
frames_lawful = record {
  none = ap (map request_of) none_framed;
  more =
      λ x y. (
        map request_of (frames (unended x ++ y)),
        ap (map request_of) (frames_on x y)
            ∙ map-append request_of (frames x) (frames (unended x ++ y)),
      );
}

pub frames_apart : IsVoice frame_voice
frames_apart = record {
  nothing = ap length none_framed;
  whole = λ r behind form. ap length (frame_first (reply_body r) behind (short_body r form.body));
  part =
      λ r front back form parts some. ap length
      (frame_part (reply_body r) front back (short_body r form.body) parts some);
  some = λ r. omega arith;
}
