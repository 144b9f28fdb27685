-- What the writers write: the heads of lists; and the numbers of a point, written and read.
use Rattle.format.specs.Format.{Format, Value, number, code, ◌&◌}
use Rattle.protocol.specs.Kind.{laser_point_format}
use Rattle.caex.specs.declared.LaserPoint.{LaserPoint}

-- message_type
abbrev pub fixture_list_head : Format
fixture_list_head = code 3 9

-- source_key
abbrev pub laser_feed_list_head : Format
laser_feed_list_head = number 4

-- source_key, feed_index, frame_sequence
abbrev pub laser_feed_frame_head : Format
laser_feed_frame_head = number 4 & number 1 & number 4

-- a point as a value and as a view, which of numbers are the same
abbrev pub point_value : LaserPoint → Value laser_point_format
point_value p = (p.x_low_byte, (p.y_low_byte, (p.xy_high_nibbles, p.color)))
